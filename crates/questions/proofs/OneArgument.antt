-- The bounds where all measurements have one argument.
use Rattle.std.proofs.Common.{◌≡◌, ◌≢◌, List, map, ℤ, pos, neg_ℤ, Some, None, sym, refl, ap, ◌∙◌, inr, arith}
use Rattle.std.specs.List.{ContainsAt as Has}
use Rattle.algebra.proofs.Ring.{linear}
use Rattle.rational.specs.Rational.{whole}
use Rattle.rational.specs.Line.{slope, value_at}
use Rattle.exact.specs.declared.fraction.Fraction.{Fraction}
use Rattle.refusal.specs.declared.refusal.Refusal.TheVariants as refusal
use Rattle.lines.specs.Sheet.{Measurement, Consistent, OneArgument}
use Rattle.lines.specs.Mirror.{mirrored}
use Rattle.lines.proofs.Members.{has_map}
use Rattle.lines.proofs.Candidates.{here_least_high, here_greatest_low}
use Rattle.lines.proofs.ValueBounds.{value_greatest, value_least}
use Rattle.lines.proofs.Unbounded.{all_at, no_greatest_slope, no_least_slope, no_greatest_value, no_least_value}
use Rattle.pairs.specs.declared.quantity.Quantity.TheVariants.{Slope}
use Rattle.pairs.proofs.Turning.{back}
use Rattle.questions.specs.Told.{SomeHeld, Bounds, NoBounds}
use Rattle.questions.specs.Asked.{GreatestLower}
use Rattle.questions.proofs.Extremes.{least_written, greatest_written}

module _ (s : List Measurement) (some : SomeHeld s) (line : Consistent s) (one : OneArgument s) where
  pub no_slope : NoBounds slope s refusal.OneArgument
  no_slope = inr (inr (some, line, one, (λ b. (no_least_slope s one b, no_greatest_slope s one b)), refl))

  module _ (x : ℤ) where
    pub no_value : ((m : Measurement) → Has s m → m.argument ≢ x) → NoBounds (λ l. value_at l x) s refusal.OneArgument
    no_value none =
        let (m, at) = some in
        inr (inr (
          some,
          line,
          one,
          (λ b. (no_least_value s m.argument (all_at s one m at) x (none m at) b, no_greatest_value s m.argument (all_at s one m at) x (none m at) b)),
          refl,
        ))

    pub not_here : GreatestLower x s None → (m : Measurement) → Has s m → m.argument ≢ x
    not_here g m at e = g.over m at e

    pub not_here_turned : GreatestLower x (map mirrored s) None → (m : Measurement) → Has s m → m.argument ≢ x
    not_here_turned g m at e = g.over (mirrored m) (has_map mirrored s m at) e

    pub value_told : (l o : ℤ) (low high : Fraction) → GreatestLower x s (Some l) → GreatestLower x (map mirrored s) (Some o)
        → low.numerator ≡ l → low.denominator ≡ 1 → high.numerator ≡ neg_ℤ o → high.denominator ≡ 1 → Bounds (λ l. value_at l x) s low high
    value_told l o low high g h ln ld hn hd =
        let (m, at, mx, ml) = g.reached in let (k, atK, kx, kl) = h.reached in
        let up = mirrored k in let at_up = back Slope s k atK in
        record {
          least = least_written (λ l. value_at l x) s (whole m.lower) low (record { numerator = ln ∙ sym ml; denominator = ap pos ld })
              (value_least s x (whole m.lower) line (here_greatest_low s x one m at mx (λ n atN. omega (arith, linear, ml, g.over n atN (one n m atN at ∙ mx)))));
          greatest = greatest_written (λ l. value_at l x) s (whole up.upper) high (record { numerator = hn ∙ ap neg_ℤ (sym kl); denominator = ap pos hd })
              (value_greatest s x (whole up.upper) line (here_least_high s x one up at_up kx (λ n atN.
              omega (arith, linear, kl, h.over (mirrored n) (has_map mirrored s n atN) (one n m atN at ∙ mx)))));
          low_denominator = omega (arith, ld);
          high_denominator = omega (arith, hd);
        }
