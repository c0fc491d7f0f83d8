-- What the outlets mean.
use Rattle.parts.specs.Listings.{Listing, Capacity}
use Rattle.outlets.specs.Reading as image
use Rattle.outlets.specs.Tables as table
use Rattle.outlets.specs.declared.image.ImageOutlet.{ImageOutlet}
use Rattle.outlets.specs.declared.table.TableOutlet.{TableOutlet}

abbrev pub table_meaning : TableOutlet → Listing
table_meaning o = table.listing_of o.records.now o.used o.area.now o.filled

abbrev pub table_capacity : (o : TableOutlet) → Capacity (table_meaning o)
table_capacity o = table.capacity_of o.records.now o.used o.area.now o.filled o.sound

abbrev pub image_meaning : ImageOutlet → Listing
image_meaning o = image.listing_of o.bytes.now o.capacity o.count o.used

abbrev pub image_capacity : (o : ImageOutlet) → Capacity (image_meaning o)
image_capacity o = image.capacity_of o.bytes.now o.capacity o.count o.used o.holds o.within
