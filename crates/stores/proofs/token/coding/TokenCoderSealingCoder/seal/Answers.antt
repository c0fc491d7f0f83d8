use Rattle.stores.specs.Tokens.{token_of}
use Rattle.stores.proofs.Xors.{xored-inverse}
use Rattle.stores.proofs.token.coding.TokenCoderSealingCoder.seal.Goals as goal

pub returns-clause-inverse : goal.returns-clause-inverse
returns-clause-inverse c = xored-inverse (token_of c.args.self.now)
