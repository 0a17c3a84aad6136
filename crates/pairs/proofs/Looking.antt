-- One more pair looked at.
use Rattle.std.proofs.Common.{◌≡◌, true, false, true≢false, List, Some, None, Option, refl, sym, subst, inl, inr, ⊎_elim}
use Rattle.std.specs.List.{ContainsAt as Has}
use Rattle.std.proofs.lemmas.Bool.{cases_cond}
use Rattle.rational.proofs.Order.{≼_trans, not_greater}
use Rattle.rational.specs.Rational.{Rational}
use Rattle.std.specs.declared.cmp.Ordering.{Ordering}
use Rattle.std.specs.declared.cmp.Ordering.TheVariants.{Less, Equal, Greater}
use Rattle.std.specs.Ordering.{is_le, is_gt}
use Rattle.std.specs.Prelude.{if◌then◌else◌}
use Rattle.std.specs.Option.{option_cmp}
use Rattle.pairs.specs.contracts.candidate.CandidateOrd.TheImpl as CandidateOrd
use Rattle.exact.specs.Quantity.{quantity}
use Rattle.lines.specs.Sheet.{Measurement}
use Rattle.places.specs.declared.sample.Sample.{Sample}
use Rattle.places.specs.Samples.{measured}
use Rattle.pairs.specs.declared.quantity.Quantity.{Quantity}
use Rattle.pairs.specs.declared.candidate.Candidate.{Candidate}
use Rattle.pairs.specs.Low.{low_of, low_of_pair, Writes}
use Rattle.pairs.specs.Best.{Below, Among, Covers, MadeOf, Looked}
use Rattle.pairs.proofs.Written.{written_over, same_low}

-- the order of candidates
abbrev order : Candidate → Candidate → Ordering
order = CandidateOrd.cmp-value.it

at_most_is_not_greater : (o : Ordering) → is_le o ≡ true → is_gt o ≡ false
at_most_is_not_greater Less h = refl
at_most_is_not_greater Equal h = refl
at_most_is_not_greater Greater h = absurd (true≢false (sym h))

-- what is below a candidate is below one that is not before it
above : (x : Rational) (c d : Option Candidate) → is_le (option_cmp order c d) ≡ true → Below x c → Below x d
above x None d h under = absurd under
above x (Some c) None h under = absurd (true≢false (sym h))
above x (Some c) (Some d) h under =
    ≼_trans x (quantity c.bound) (quantity d.bound) under (not_greater (quantity c.bound) (quantity d.bound) (at_most_is_not_greater _ h))

module _ (q : Quantity) (a b : Sample) where
  -- the new candidate covers its own pair
  own : (c : Candidate) → c.pair.first ≡ a → c.pair.second ≡ b → Writes c.bound (low_of_pair q c.pair) → Covers q (Some c) (measured a) (measured b)
  own c ea eb w =
      subst (λ x. Covers q (Some c) (measured x) (measured b)) ea (subst (λ y. Covers q (Some c) (measured c.pair.first) (measured y)) eb (λ h.
      written_over c.bound _ (same_low q (measured c.pair.first) (measured c.pair.second) c.pair.rises h c.bound w)))

  module _ (new : Candidate) (ea : new.pair.first ≡ a) (eb : new.pair.second ≡ b) (w : Writes new.bound (low_of_pair q new.pair)) where
    pub picked : (best r : Option Candidate) → r ≡ (if is_le (option_cmp order (Some new) best) then best else Some new)
        → is_le (option_cmp order (Some new) r) ≡ true → is_le (option_cmp order best r) ≡ true → Looked q best a b r
    picked best r is over-new over-best = record {
      covers = λ h. above (low_of q (measured a) (measured b) h) (Some new) r over-new (own new ea eb w h);
      keeps = λ x. above x best r over-best;
      origin = ⊎_elim (λ e. inl e) (λ e. inr (subst (MadeOf q a b) (sym e) (ea, eb, w))) (cases_cond _ best (Some new) r is);
    }

module _ (q : Quantity) (best : Option Candidate) (a b : Sample) (s : List Measurement) (atA : Has s (measured a)) (at_b : Has s (measured b)) where
  made_among : (r : Option Candidate) → MadeOf q a b r → Among q s r
  made_among None made = absurd made
  made_among (Some c) (ea, eb, w) = (subst (λ x. Has s (measured x)) (sym ea) atA, subst (λ y. Has s (measured y)) (sym eb) at_b, w)

  pub looked_among : (r : Option Candidate) → Looked q best a b r → Among q s best → Among q s r
  looked_among r look old = ⊎_elim (λ e. subst (Among q s) (sym e) old) (made_among r) look.origin
