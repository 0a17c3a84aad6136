use Rattle.lines.specs.Slopes.{LowChord}
use Rattle.questions.specs.Naming.{ChordAbove}
use Rattle.questions.proofs.Chords.{tested, failed, renamed}
use Rattle.questions.proofs.Breaks.{low_named, high_named, inside_named, after_named, before_named, around_named}
use Rattle.questions.proofs.triples.broken.Goals as goal
use Rattle.questions.proofs.triples.broken.Goals.{then-m-i+else-chord_above, else-m-i+else-chord_above-2}

pub returns-then-chord_above : goal.returns-then-chord_above
returns-then-chord_above c =
    let p = c.args.steep in let g = c.args.gentle in
    low_named _ _ _ _ _ p.rises g.rises c.requires (tested g.second.argument p.second.argument c.if-m-i.true) c.if-chord_above.ensures c.three.ensures

pub returns-then-chord_above-2 : goal.returns-then-chord_above-2
returns-then-chord_above-2 c =
    let p = c.args.steep in let g = c.args.gentle in
    high_named _ _ _ _ _ p.rises g.rises c.requires (failed g.second.argument p.second.argument c.if-m-i.false)
    (renamed ChordAbove _ _ _ _ _ _ c.mirrored.ensures c.mirrored-else-m-i.ensures c.mirrored-else-m-i-2.ensures c.if-chord_above-2.ensures)
    c.three-then-chord_above-2.ensures

pub returns-then-j-k : goal.returns-then-j-k
returns-then-j-k c =
    let p = c.args.steep in let g = c.args.gentle in
    let jk = tested p.first.argument g.first.argument c.if-j-k.true in
    elim c.if-m-i.branch [
      | then-m-i+else-chord_above w ↦ inside_named _ _ _ _ _ p.rises g.rises c.requires jk c.three-then-j-k.ensures w.if-chord_above.ensures
      | else-m-i+else-chord_above-2 w ↦
          after_named _ _ _ _ _ p.rises g.rises c.requires jk c.three-then-j-k.ensures (failed g.second.argument p.second.argument w.if-m-i.false)
          (renamed LowChord _ _ _ _ _ _ w.mirrored.ensures w.mirrored-else-m-i.ensures w.mirrored-else-m-i-2.ensures w.if-chord_above-2.ensures)
    ]

pub returns-else-j-k : goal.returns-else-j-k
returns-else-j-k c =
    let p = c.args.steep in let g = c.args.gentle in
    let kj = failed p.first.argument g.first.argument c.if-j-k.false in
    elim c.if-m-i.branch [
      | then-m-i+else-chord_above w ↦ before_named _ _ _ _ _ p.rises g.rises c.requires kj c.three-else-j-k.ensures w.if-chord_above.ensures
      | else-m-i+else-chord_above-2 w ↦
          around_named _ _ _ _ _ p.rises g.rises c.requires kj c.three-else-j-k.ensures
          (renamed LowChord _ _ _ _ _ _ w.mirrored.ensures w.mirrored-else-m-i.ensures w.mirrored-else-m-i-2.ensures w.if-chord_above-2.ensures)
    ]
