-- A run before each frame.
use Rattle.std.proofs.Common.{◌≡◌, ℕ, ◌+◌, ◌*◌, ◌≤◌, List, [], ◌∷◌, ◌++◌, length, take, drop, None, Option, sym, refl, ap, ◌∙◌, subst, append_assoc, arith, length-drop}
use Rattle.std.proofs.lemmas.List.{append-nil}
use Rattle.stage.specs.Meaning.{Meaning}
use Rattle.book.specs.Book.{blank}
use Rattle.book.specs.Run.{after}
use Rattle.book.proofs.Laws.{replies_none}
use Rattle.register.specs.Page.{page}
use Rattle.channel.specs.declared.channel.Channel.{Channel}
use Rattle.channel.specs.Lines.{OfLines}
use Rattle.channel.specs.Runs.{Whole}
use Rattle.channel.specs.Steps.{Standing, standing}
use Rattle.channel.proofs.Wholes.{fresh, whole_run}
use Rattle.frames.specs.Tape.{Said, frame, said, moved}
use Rattle.frames.specs.Answers.{meaning as says}
use Rattle.frames.specs.declared.frame.Frame.{Frame}
use Rattle.printout.specs.declared.line.Line.{Line}
use Rattle.player.specs.Sayings.{sayings}
use Rattle.player.specs.Script.{script, before}
use Rattle.player.specs.Steps.{Player, Run, Continues, Deals, Prints, idle, told, owed, brings}
use Rattle.player.specs.Played.{Printout, read}
use Rattle.player.proofs.Frames.{Comes, Ends, later, sayings_at, sayings_frame}
use Rattle.player.proofs.Reaching.{rest_later}

module _ {S : Type 0} (meaning : S → Meaning) (m : Meaning) (n : ℕ) (tape : List ℕ) where
  pub record Playing (buffer : List ℕ) (player : Player S) (left : List ℕ) (at : ℕ) (out : List ℕ) : Type 0 where
    pub run : Run meaning m n (sayings 0 (read tape)) player (sayings 0 left) (take at out)
    pub rest : drop at out ≡ drop at buffer
    pub room : at + owed player.pending + 80 * length left ≤ length buffer

  -- the start of a run
  pub start : (buffer : List ℕ) (stage : S) → meaning stage ≡ m → (channel : Channel S) → standing channel ≡ fresh n stage
      → (left : List ℕ) → left ≡ read tape → 80 * length (read tape) ≤ length buffer → Playing buffer (idle channel) left 0 buffer
  unfolding after
  start buffer stage means channel stands left whole h =
      subst (λ l. Playing buffer (idle channel) l 0 buffer) (sym whole) (record {
        run = record {
          number = ap (λ (s : Standing S). s.number) stands;
          stage = ap (λ (s : Standing S). meaning s.stage) stands ∙ means;
          reached = record { calls = []; answers = []; led = (ap (λ (s : Standing S). s.page) stands, replies_none m n OfLines blank); onward = λ rs. refl };
        };
        rest = refl;
        room = omega arith;
      })

  -- the end of a run
  whole : (channel : Channel S) (left : List ℕ) (ss : List Said) (last : Option Line) (t : List ℕ) → Ends left last → Run meaning m n (sayings 0 (read tape)) (idle channel) (said left ∷ ss) t → Printout m n tape (t ++ told last)
  whole channel left ss last t end run =
      let g = run.reached in
      record {
        calls = g.calls;
        answers = g.answers;
        end = page channel.register;
        whole = subst (Whole m n g.calls g.answers) (sym g.led.0) (whole_run m n g.calls g.answers g.led.1);
        script_is =
            ap (script None (sayings 0 (read tape))) (sym (append-nil g.answers))
            ∙ g.onward []
            ∙ ap (before g.calls t) (end.script_is ss [])
            ∙ (λ i. record { calls = append-nil g.calls i; text = t ++ append-nil (told last) i });
      }

  -- a run goes on by what was printed
  printed : (player next : Player S) (left left' : List Said) (bytes xs ys : List ℕ) (at at' : ℕ) → Continues meaning player left next left' bytes → Prints bytes xs at ys at'
      → Run meaning m n (sayings 0 (read tape)) player left (take at xs) → Run meaning m n (sayings 0 (read tape)) next left' (take at' ys)
  printed player next left left' bytes xs ys at at' on prints run =
      subst (Run meaning m n (sayings 0 (read tape)) next left') (sym prints.text) (on m n (sayings 0 (read tape)) (take at xs) run)

  module _ (buffer : List ℕ) (player : Player S) (left : List ℕ) (at : ℕ) (out : List ℕ) (playing : Playing buffer player left at out) (bytes out' : List ℕ) (at' : ℕ) (prints : Prints bytes out at out' at') where
    kept : drop at' out' ≡ drop at' buffer
    kept = prints.rest ∙ rest_later out buffer at at' prints.after playing.rest

    -- a frame was dealt with, and its lines were printed
    pub played : (f : Frame) → Comes left f → (next : Player S) → Deals meaning player (says f) next bytes → (left' : List ℕ) → left' ≡ drop (moved (said left)) left → moved (said left) ≤ length left
        → at' + owed next.pending ≤ at + owed player.pending + brings (says f) → Playing buffer next left' at' out'
    played f comes next deals left' gone within room =
        let k = moved (said left) in
        let before = subst (λ ss. Run meaning m n (sayings 0 (read tape)) player ss (take at out)) (sayings_frame left k (says f) comes.is) playing.run in
        let run = printed player next (frame (says f) k ∷ sayings 0 (drop k left)) (sayings 0 (drop k left)) bytes out out' at at' (deals (sayings 0 (drop k left)) k) prints before in
        subst (λ l. Playing buffer next l at' out') (sym gone)
        (record { run = run; rest = kept; room = omega (arith, playing.room, room, comes.room, within, length-drop k left) })

    -- the run ended: what was owed was printed, and then the last line, if it is told
    pub over : (channel : Channel S) (last : Option Line) → Ends left last → Continues meaning player (said left ∷ later (said left) left) (idle channel) (said left ∷ later (said left) left) bytes
        → (out'' : List ℕ) (at'' : ℕ) → Prints (told last) out' at' out'' at'' → Printout m n tape (take at'' out'') × (drop at'' out'' ≡ drop at'' buffer)
    over channel last end on out'' at'' prints' =
        let ss = later (said left) left in
        let before = subst (λ ss. Run meaning m n (sayings 0 (read tape)) player ss (take at out)) (sayings_at left) playing.run in
        let run = printed player (idle channel) (said left ∷ ss) (said left ∷ ss) bytes out out' at at' on prints before in (
          subst (Printout m n tape) (sym prints'.text) (whole channel left ss last (take at' out') end run),
          prints'.rest ∙ rest_later out' buffer at' at'' prints'.after kept,
        )

-- nothing was printed
pub nothing : (xs : List ℕ) (p : ℕ) → Prints [] xs p xs p
nothing xs p = record { text = sym (append-nil (take p xs)); rest = refl; after = omega arith }

-- one text was printed after another
pub twice : (a b xs ys zs : List ℕ) (p q r : ℕ) → Prints a xs p ys q → Prints b ys q zs r → Prints (a ++ b) xs p zs r
twice a b xs ys zs p q r f g = record {
  text = g.text ∙ ap (λ t. t ++ b) f.text ∙ append_assoc (take p xs) a b;
  rest = g.rest ∙ rest_later ys xs q r g.after f.rest;
  after = omega (arith, f.after, g.after);
}
