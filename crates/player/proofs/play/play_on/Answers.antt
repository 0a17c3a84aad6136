use Rattle.std.proofs.Common.{◌≡◌, ◌++◌, length, None, Some, refl, ap, subst, arith, length-take, length-drop, rules}
use Rattle.refusal.specs.Numbers.{number}
use Rattle.printout.specs.declared.line.Line.TheVariants.{Refused}
use Rattle.printout.specs.Text.{text}
use Rattle.frames.specs.Tape.{said, moved}
use Rattle.player.specs.Steps.{player, told}
use Rattle.player.proofs.Frames.{Ends, later, comes, at_end, at_refusal}
use Rattle.player.proofs.Playing.{start, played, over, nothing, twice}
use Rattle.player.proofs.play.play_on.Goals as goal
use Rattle.player.proofs.play.play_on.Goals.{in-Ok-None, in-Err}

pub returns-then-out-min : goal.returns-then-out-min
returns-then-out-min g c = (omega (arith, length-take 4096 c.args.tape.now), refl, search rules)

pub loop-frame-init : goal.loop-frame-init
loop-frame-init g c =
    start g.S.Stage.meaning (g.S.Stage.meaning c.args.stage) c.args.number c.args.tape.now c.args.out.now c.args.stage refl c.new-channel.result c.new-channel.ensures.channel
    c.new-reader.result.left.now c.new-reader.ensures.left (omega (arith, length-take 4096 c.args.tape.now))

pub put_line-at-requires : goal.put_line-at-requires
put_line-at-requires g c =
    let here = c.in-Ok-Some.ensures in
    let next = comes c.loop-frame.reader.position c.loop-frame.reader.left.now c.in-Ok-Some.field-0 c.in-Ok-Some.frame c.in-Ok-Some.field-0-is here.answer in (
      omega (arith, c.loop-frame.invariant.room, c.turn-point.ensures.room, c.put_told-at.ensures.room, next.room, here.within, c.loop-frame.auto.out, c.put_told-at.auto.out),
      omega (arith, c.turn-point.ensures.reason, next.short),
    )

pub loop-frame-smaller : goal.loop-frame-smaller
loop-frame-smaller g c =
    let left = c.loop-frame.reader.left.now in
    let here = c.in-Ok-Some.ensures in
    let next = comes c.loop-frame.reader.position left c.in-Ok-Some.field-0 c.in-Ok-Some.frame c.in-Ok-Some.field-0-is here.answer in
    omega (arith, next.moves, here.within, ap length here.left, length-drop (moved (said left)) left)

pub loop-frame-preserved : goal.loop-frame-preserved
loop-frame-preserved g c =
    let l = c.loop-frame in
    let here = c.in-Ok-Some.ensures in
    let next = comes l.reader.position l.reader.left.now c.in-Ok-Some.field-0 c.in-Ok-Some.frame c.in-Ok-Some.field-0-is here.answer in
    let aborted = told c.turn-point.result.1 in
    let line = text c.turn-point.result.2 in
    let prints = twice aborted line l.out c.put_told-at.new.out c.put_line-at.new.out l.at c.put_told-at.result c.put_line-at.result c.put_told-at.ensures.prints c.put_line-at.ensures.prints in
    played g.S.Stage.meaning (g.S.Stage.meaning c.args.stage) c.args.number c.args.tape.now c.args.out.now (player l.channel l.pending) l.reader.left.now l.at l.out l.invariant (aborted ++ line) c.put_line-at.new.out c.put_line-at.result prints
    c.in-Ok-Some.frame next (player c.turn-point.new.channel c.turn-point.result.0) c.turn-point.ensures.run _ here.left here.within (omega (arith, c.turn-point.ensures.room, c.put_told-at.ensures.room, c.put_line-at.ensures.room))

pub returns-in-None : goal.returns-in-None
returns-in-None g c =
    let l = c.loop-frame in
    let left = l.reader.left.now in
    let ss = later (said left) left in
    let end : Ends left None =
    elim c.match-next.branch [
      | in-Ok-None w ↦ at_end l.reader.position left w.in-Ok-None.field-0 w.in-Ok-None.field-0-is w.in-Ok-None.ensures.answer
      | in-Err w ↦ absurd (cc)
    ] in
    let closed = c.close-interrupted in
    let put = c.put_told-end in
    let done = over g.S.Stage.meaning (g.S.Stage.meaning c.args.stage) c.args.number c.args.tape.now c.args.out.now (player l.channel l.pending) left l.at l.out l.invariant (told closed.result) put.new.out put.result put.ensures.prints
    closed.new.channel None end (closed.ensures.run (said left) ss end.stops) put.new.out put.result (nothing put.new.out put.result) in (
      omega (arith, length-take 4096 c.args.tape.now),
      omega (arith, l.invariant.room, closed.ensures.room, put.ensures.room),
      done.0,
      done.1,
    )

pub returns : goal.returns
returns g c =
    let l = c.loop-frame in
    let left = l.reader.left.now in
    let ss = later (said left) left in
    let end : Ends left (Some c.refused.result) =
    elim c.match-next.branch [
      | in-Ok-None w ↦ absurd (cc)
      | in-Err w ↦
          let same : Refused (number w.in-Err.refusal) ≡ c.refused.result = cc in
          subst (λ line. Ends left (Some line)) same (at_refusal l.reader.position left w.in-Err.refusal w.in-Err.ensures.answer)
    ] in
    let closed = c.close-interrupted in
    let put = c.put_told-end in
    let done = over g.S.Stage.meaning (g.S.Stage.meaning c.args.stage) c.args.number c.args.tape.now c.args.out.now (player l.channel l.pending) left l.at l.out l.invariant (told closed.result) put.new.out put.result put.ensures.prints
    closed.new.channel (Some c.refused.result) end (closed.ensures.run (said left) ss end.stops) c.put_line.new.out c.put_line.result c.put_line.ensures.prints in (
      omega (arith, length-take 4096 c.args.tape.now),
      omega (arith, l.invariant.room, end.room, closed.ensures.room, put.ensures.room, c.put_line.ensures.room),
      done.0,
      done.1,
    )
