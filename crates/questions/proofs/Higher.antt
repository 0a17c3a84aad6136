-- The greater of the best so far and a number, told of the numbers as they are passed.
use Rattle.std.proofs.Common.{ℤ, Option, sym, subst, arith, w32, SFits, to_z, of_z}
use borrow.Author.Differences.{fits_in}
use Rattle.std.proofs.lemmas.Int.{ints, to_z-of_z}
use Rattle.places.specs.declared.sample.Sample.{Sample}
use Rattle.questions.specs.Asked.{Higher}

lower_fits : (a : Sample) → SFits w32 a.set.lower
lower_fits a = fits_in w32 a.set.lower (omega (arith, ints, a.set.low, a.set.ordered, a.set.high))

pub as_told : (best : Option ℤ) (a : Sample) (v : ℤ) → SFits w32 v → Higher best (to_z w32 (of_z w32 a.set.lower)) v → Higher best a.set.lower (to_z w32 (of_z w32 v))
as_told best a v fits h =
    subst (λ r. Higher best a.set.lower r) (sym (to_z-of_z w32 v fits)) (subst (λ z. Higher best z v) (to_z-of_z w32 _ (lower_fits a)) h)
