use Rattle.std.proofs.Common.{rules}
use Rattle.bounded.specs.Truth.{enclosed}
use Rattle.bounded.proofs.bounded.Bounded.ends.Goals as goal

pub returns-clause-model : goal.returns-clause-model
returns-clause-model c = let s = c.args.self.now in enclosed s.relative s.few s.absolute c.args.reading _ _ (search rules) (search rules)
