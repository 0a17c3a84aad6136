-- The greatest lower end so far.
use Rattle.std.proofs.Common.{◌≡◌, ◌≢◌, ℕ, ◌+◌, ◌<◌, ◌≤◌, true, true≢false, List, length, get_or, ℤ, Some, None, Option, sym, subst, ⊎_elim, arith}
use Rattle.std.proofs.lemmas.Bool.{cases_cond}
use Rattle.std.proofs.lemmas.Int.{ints}
use Rattle.std.specs.Option.{option_cmp}
use Rattle.std.specs.Prelude.{if◌then◌else◌}
use Rattle.std.specs.Ordering.{is_le, int_cmp}
use Rattle.lines.specs.Sheet.{Measurement}
use Rattle.places.specs.declared.sample.Sample.{Sample}
use Rattle.places.specs.declared.place.Place.{Place}
use Rattle.places.specs.Held.{held}
use Rattle.places.specs.Samples.{measured, sampled}
use Rattle.places.proofs.Rows.{Row, row_more, row_all, has_here}
use Rattle.questions.specs.Asked.{NotOver, LowerAt, GreatestLower}

-- at the argument x it is not over the best
abbrev pub Kept : ℤ → Option ℤ → Measurement → Type 0
Kept x best m = m.argument ≡ x → NotOver m.lower best

-- that there are 64 places is seen once one is read
pub record Lowest (x : ℤ) (ps : List Place) (n : ℕ) (best : Option ℤ) : Type 0 where
  pub reached : LowerAt x (held ps) best
  pub row : Row (Kept x best) ps n
  pub long : 0 < n → length ps ≡ 64

not_over : (z : ℤ) (c d : Option ℤ) → is_le (option_cmp int_cmp c d) ≡ true → NotOver z c → NotOver z d
not_over z None d h over = absurd over
not_over z (Some c) None h over = absurd (true≢false (sym h))
not_over z (Some c) (Some d) h over = grind (arith, ints)

module _ (x : ℤ) (ps : List Place) where
  pub lowest_all : (n : ℕ) (best : Option ℤ) → 64 ≤ n → Lowest x ps n best → GreatestLower x (held ps) best
  lowest_all n best full l = record { reached = l.reached; over = row_all (Kept x best) ps n (omega (arith, l.long (omega arith))) l.row }

  module _ (n : ℕ) (best : Option ℤ) (l : Lowest x ps n best) (long : length ps ≡ 64) (lt : n < 64) (d : Place) where
    pub lowest_same : None ≡ sampled (get_or ps n d) → Lowest x ps (n + 1) best
    lowest_same none = record { reached = l.reached; row = row_more (Kept x best) ps n d None (omega arith) none tt l.row; long = λ more. long }

    module _ (a : Sample) (some : Some a ≡ sampled (get_or ps n d)) where
      pub lowest_elsewhere : a.argument.value ≢ x → Lowest x ps (n + 1) best
      lowest_elsewhere other = record
          { reached = l.reached; row = row_more (Kept x best) ps n d (Some a) (omega arith) some (λ e. absurd (other e)) l.row; long = λ more. long }

      pub lowest_here : a.argument.value ≡ x → (v : ℤ) → v ≡ a.set.lower → (r : Option ℤ) → r ≡ (if is_le (option_cmp int_cmp best (Some v)) then Some v else best)
          → is_le (option_cmp int_cmp best r) ≡ true → is_le (option_cmp int_cmp (Some v) r) ≡ true → Lowest x ps (n + 1) r
      lowest_here at v lower r is over-best over-new = record {
        reached = ⊎_elim (λ e. subst (LowerAt x (held ps)) (sym e) (measured a, has_here ps n d a (omega arith) some, at, sym lower))
            (λ e. subst (LowerAt x (held ps)) (sym e) l.reached) (cases_cond _ (Some v) best r is);
        row = row_more (Kept x r) ps n d (Some a) (omega arith) some (λ e. not_over a.set.lower (Some v) r over-new (omega (arith, ints, lower)))
            (λ y atY e. not_over y.lower best r over-best (l.row y atY e));
        long = λ more. long;
      }
