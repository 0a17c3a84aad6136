use Rattle.std.proofs.Common.{pos, ◌+ℤ◌, ◌-ℤ◌, nat_abs, ◌≤ℤ◌, ◌<ℤ◌, ⊎_elim, arith, w64, SFits, rules}
use lib.Signed.{quot_z, rem_z}
use Rattle.std.proofs.lemmas.Int.{ints, to_z-of_z}
use Rattle.algebra.proofs.Ring.{linear, distrib_right, one_left}
use Rattle.exact.specs.Division.{ceiling}
use Rattle.exact.proofs.Rounding.{above, rounds_up, up_unique, truncated, quotient_fits, remainder_fits, towards_zero}
use Rattle.exact.proofs.divisor.Divisor.ceiling.Goals as goal

pub returns-then-number-self-gt0 : goal.returns-then-number-self-gt0
returns-then-number-self-gt0 c =
    let w = c.args.number in let v = c.args.self.value in let h = c.args.self.positive in
    let fw = c.ranges.number in let fv : SFits w64 v = search rules in
    let fq = quotient_fits w v h fw in let fr = remainder_fits w v fw in
    let t = truncated w v h in
    let more : pos 0 <ℤ rem_z w v = let e = simp to_z-of_z at c.if-number-self-gt0.true in omega (arith, ints) in
    let f : SFits w64 (quot_z w v +ℤ pos 1) = ⊎_elim (λ k. omega (arith, ints)) (λ k. omega (arith, ints)) (towards_zero w v (quot_z w v) (rem_z w v) h t.0) in
    let up = above w v (quot_z w v +ℤ pos 1) (v -ℤ rem_z w v) (omega (arith, linear, distrib_right (quot_z w v) (pos 1) v, one_left v)) (omega (arith, linear)) (omega (arith, linear)) in
    simp to_z-of_z record { value = up_unique w v (quot_z w v +ℤ pos 1) (ceiling w (nat_abs v)) up (rounds_up w v h); meaning = up }

pub returns-else-number-self-gt0 : goal.returns-else-number-self-gt0
returns-else-number-self-gt0 c =
    let w = c.args.number in let v = c.args.self.value in let h = c.args.self.positive in
    let fw = c.ranges.number in let fv : SFits w64 v = search rules in
    let fq = quotient_fits w v h fw in let fr = remainder_fits w v fw in
    let t = truncated w v h in
    let none : rem_z w v ≤ℤ pos 0 = let e = simp to_z-of_z at c.if-number-self-gt0.false in omega (arith, ints) in
    let up = above w v (quot_z w v) (pos 0 -ℤ rem_z w v) (omega (arith, linear)) (omega (arith, linear)) (omega (arith, linear)) in
    simp to_z-of_z record { value = up_unique w v (quot_z w v) (ceiling w (nat_abs v)) up (rounds_up w v h); meaning = up }
