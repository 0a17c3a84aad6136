use Rattle.std.proofs.Common.{◌≡◌, ℤ, ◌+ℤ◌, ◌-ℤ◌, sym, ap, ◌∙◌, subst, arith, w32, to_z, of_z}
use Rattle.std.proofs.lemmas.Int.{ints}
use Rattle.lines.specs.Values.{least}
use Rattle.places.specs.Samples.{measured}
use Rattle.exact.specs.declared.argument.Argument.{Argument}
use Rattle.pairs.specs.declared.quantity.Quantity.TheVariants.{Slope, Value}
use Rattle.places.specs.declared.sample.Sample.{Sample}
use Rattle.pairs.specs.Low.{low_of_pair, Writes}
use Rattle.pairs.proofs.Sizes.{Small, distance, distance_cast, least_small, sum_fits, sum_cast, sum_in_range}
use Rattle.pairs.proofs.quantity.Quantity.low.Goals as goal

-- a least product as it is told: its weight is the distance of two arguments
module _ (m : Sample) (a b : Argument) (y : ℤ) (told : y ≡ least (measured m) (to_z w32 (of_z w32 (to_z w32 (of_z w32 a.value) -ℤ to_z w32 (of_z w32 b.value))))) where
  product_is : y ≡ least (measured m) (a.value -ℤ b.value)
  product_is = told ∙ ap (least (measured m)) (distance_cast a b)

  product_small : Small y
  product_small = subst Small (sym product_is) (least_small m (a.value -ℤ b.value) (distance a b))

pub overflow_add-from_first : goal.overflow_add-from_first
overflow_add-from_first c =
    let p = c.args.pair in let x = c.in-Value.argument in
    sum_fits _ _ (product_small p.first p.second.argument x _ c.least-from_first.ensures) (product_small p.second x p.first.argument _ c.least-from_second.ensures)

pub over_span-requires-in-Value : goal.over_span-requires-in-Value
over_span-requires-in-Value c =
    let p = c.args.pair in let x = c.in-Value.argument in
    sum_in_range _ _ (product_small p.first p.second.argument x _ c.least-from_first.ensures) (product_small p.second x p.first.argument _ c.least-from_second.ensures)

pub returns-in-Slope : goal.returns-in-Slope
returns-in-Slope c =
    let p = c.args.pair in let r = c.over_span.result in
    let s = p.first.set in let t = p.second.set in
    let w : Writes r (low_of_pair Slope p) = record {
      numerator = c.over_span.ensures.numerator ∙ omega (arith, ints, s.low, s.ordered, s.high, t.low, t.ordered, t.high);
      denominator = c.over_span.ensures.span;
    } in
    subst (λ q. Writes r (low_of_pair q p)) (sym c.in-Slope.is) w

pub returns-in-Value : goal.returns-in-Value
returns-in-Value c =
    let p = c.args.pair in let r = c.over_span-in-Value.result in let x = c.in-Value.argument in
    let y = c.least-from_first.ensures in let z = c.least-from_second.ensures in
    let w : Writes r (low_of_pair (Value x) p) = record {
      numerator = c.over_span-in-Value.ensures.numerator ∙ sum_cast _ _ (product_small p.first p.second.argument x _ y) (product_small p.second x p.first.argument _ z)
          ∙ (λ i. product_is p.first p.second.argument x _ y i +ℤ product_is p.second x p.first.argument _ z i);
      denominator = c.over_span-in-Value.ensures.span;
    } in
    subst (λ q. Writes r (low_of_pair q p)) (sym c.in-Value.is) w
