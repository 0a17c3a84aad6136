use Rattle.std.proofs.Common.{◌≡◌, ◌+◌, length, take, subst, sym, arith, rules}
use Rattle.std.specs.Io.KnownBytes.{Consumes}
use Rattle.std.specs.Prelude.{IfSome}
use Rattle.tape.proofs.Reading.{read_more, read_all, read_full}
use Rattle.tape.proofs.read_tape.Goals as goal

pub loop-length-preserved : goal.loop-length-preserved
loop-length-preserved g c =
    let i = c.loop-length.invariant in let e = c.in_ok-read.ensures in
    let long : length c.read_at.new.tape ≡ 4096 = search rules in
    (omega (arith, e.fits, long), long, read_more _ _ _ c.loop-length.length c.in_ok-read.read c.loop-length.tape c.read_at.new.tape c.read_at.ensures.front i.2 e.bytes)

pub returns-clause-bytes : goal.returns-clause-bytes
returns-clause-bytes g c =
    let i = c.loop-length.invariant in
    let full : c.loop-length.length ≡ 4096 = omega (arith, i.0, c.loop-length-test.false) in
    subst (λ n. IfSome (g.R.Read.remaining c.args.source.now) (λ all. take n c.loop-length.tape ≡ take 4096 all)) (sym full)
    (read_full _ (g.R.Read.remaining c.loop-length.source) 4096 c.loop-length.tape i.1
    (subst (λ n. Consumes (g.R.Read.remaining c.args.source.now) (g.R.Read.remaining c.loop-length.source) (take n c.loop-length.tape)) full i.2))

pub returns-then-read-eq0-clause-bytes : goal.returns-then-read-eq0-clause-bytes
returns-then-read-eq0-clause-bytes g c =
    let i = c.loop-length.invariant in let e = c.in_ok-read.ensures in
    let n = c.loop-length.length in let tape = c.read_at.new.tape in
    let none = c.if-read-eq0.true in
    let same : n + c.in_ok-read.read ≡ n = omega (arith, none) in
    read_all _ (g.R.Read.remaining c.read_at.new.source) n 4096 tape i.0
    (subst (λ k. Consumes (g.R.Read.remaining c.args.source.now) (g.R.Read.remaining c.read_at.new.source) (take k tape)) same
    (read_more _ _ _ n c.in_ok-read.read c.loop-length.tape tape e.front i.2 e.bytes)) (e.end none)
