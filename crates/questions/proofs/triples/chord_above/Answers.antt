use Rattle.std.proofs.Common.{arith}
use Rattle.std.proofs.lemmas.Int.{ints}
use Rattle.places.specs.declared.sample.Sample.{Sample}
use Rattle.places.specs.Samples.{measured}
use Rattle.pairs.proofs.Sizes.{sum_fits}
use Rattle.questions.proofs.Chords.{End, times_is, times_small, chord_told}
use Rattle.questions.proofs.triples.chord_above.Goals as goal

lower_end : (a : Sample) → End a.set.lower
lower_end a = record { low = a.set.low; high = omega (arith, ints, a.set.ordered, a.set.high) }

upper_end : (a : Sample) → End a.set.upper
upper_end a = record { low = omega (arith, ints, a.set.low, a.set.ordered); high = a.set.high }

pub overflow_add-result : goal.overflow_add-result
overflow_add-result c =
    let a = c.args.a in let b = c.args.b in let l = c.args.c in
    sum_fits _ _ (times_small a.set.lower b.argument l.argument _ (lower_end a) c.times_distance-from_first.ensures)
    (times_small l.set.lower a.argument b.argument _ (lower_end l) c.times_distance-from_last.ensures)

pub returns : goal.returns
returns c =
    let a = c.args.a in let b = c.args.b in let l = c.args.c in
    let y = c.times_distance-from_first.ensures in let z = c.times_distance-from_last.ensures in let w = c.times_distance.ensures in
    chord_told (measured a) (measured b) (measured l) _ _ _
    (times_small a.set.lower b.argument l.argument _ (lower_end a) y)
    (times_small l.set.lower a.argument b.argument _ (lower_end l) z)
    (times_small b.set.upper a.argument l.argument _ (upper_end b) w)
    (times_is a.set.lower b.argument l.argument _ (lower_end a) y)
    (times_is l.set.lower a.argument b.argument _ (lower_end l) z)
    (times_is b.set.upper a.argument l.argument _ (upper_end b) w)
