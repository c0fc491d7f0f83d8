use Rattle.rows.proofs.Mappings.{means_map}
use Rattle.rows.proofs.mapping.distinct_rows_map.Goals as goal

pub returns : goal.returns
returns g c = means_map g.row.P.Denot
