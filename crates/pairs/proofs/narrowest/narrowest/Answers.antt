use Rattle.places.specs.Held.{held}
use Rattle.pairs.proofs.Turning.{no_low, no_mirrored_low, low_bound, high_bound}
use Rattle.pairs.proofs.narrowest.narrowest.Goals as goal

pub returns-in_err-least : goal.returns-in_err-least
returns-in_err-least c =
    let q = c.args.quantity in let s = held c.args.places.now.all in
    rw c.from_residual.ensures (no_low q s c.in_err-least.ensures)

pub returns-in_err-opposite : goal.returns-in_err-opposite
returns-in_err-opposite c =
    let q = c.args.quantity in let s = held c.args.places.now.all in
    rw c.from_residual-in_err-opposite.ensures (no_mirrored_low q s (rw c.mirrored-turned.ensures at c.in_err-opposite.ensures))

pub returns : goal.returns
returns c =
    let q = c.args.quantity in let s = held c.args.places.now.all in let o = c.in_ok-opposite.opposite in
    (low_bound q s c.in_ok-least.least c.in_ok-least.ensures, high_bound q s o c.mirrored.result c.mirrored.ensures (rw c.mirrored-turned.ensures at c.in_ok-opposite.ensures))
