-- Each call goes on from whatever history led to it.
use Rattle.std.proofs.Common.{◌≡◌, ℕ, [], ◌∷◌, ℤ, Some, None, Option, Result, sym, refl, subst, arith}
use Rattle.std.proofs.lemmas.Int.{to_z-of_z}
use Rattle.exact.specs.declared.fraction.Fraction.{Fraction}
use Rattle.refusal.specs.declared.refusal.Refusal.{Refusal}
use Rattle.stage.specs.Meaning.{Meaning}
use Rattle.places.specs.Held.{held}
use Rattle.questions.specs.declared.verdict.Verdict.{Verdict}
use Rattle.questions.specs.Told.{TellsVerdict, TellsSlope, TellsValue}
use Rattle.book.specs.declared.call.Call.{Call}
use Rattle.book.specs.declared.call.Call.TheVariants as call
use Rattle.book.specs.Rows.{Outcome, answered, Answers, DistinctSerials}
use Rattle.book.specs.Book.{Book, blank, rows}
use Rattle.book.specs.Law.{events, Lawful}
use Rattle.book.proofs.Laws.{law_step}
use Rattle.book.proofs.Sheets.{distinct_rows}
use Rattle.book.proofs.Steps.{agrees_blank}
use Rattle.register.specs.declared.register.Register.{Register}
use Rattle.register.specs.Page.{page}
use Rattle.channel.specs.declared.channel.Channel.{Channel}
use Rattle.channel.specs.Lines.{Says, OfLines}
use Rattle.channel.specs.Steps.{Standing, standing, goes, told, Performs}
use Rattle.channel.specs.Told.{judged, sloped, valued}
use Rattle.channel.specs.Runs.{Led, KeepsLaw}
use Rattle.channel.proofs.Sheets.{sheet_of, unordered}

-- the one right answer is an answer
pub right : (o : Option Outcome) (r : Outcome) (P : Type 0) → Some r ≡ o → Answers o P r
right (Some a) r P e = cc
right None r P e = let z : ◌≡◌ {A = ℕ} 0 1 = cc in absurd (omega arith)

-- what is said of the places of a register is said of the rows of its page
pub of_lines : (o : Option Outcome) (g : Register) (c : Call) (r : Outcome) → DistinctSerials (rows (page g)) → Answers o (Says (held g.places.all) c r) r → Answers o (OfLines (rows (page g)) c r) r
of_lines (Some a) g c r distinct e = e
of_lines None g c r distinct says = (held g.places.all, sheet_of g.places.all distinct, says)

module _ {S : Type 0} (meaning : S → Meaning) where
  -- whatever history led to a channel, it goes on with a call that it performs
  pub performs_law : (before after : Channel S) (c : Call) (r : Outcome) → Performs meaning before c r after → KeepsLaw meaning (standing before) c r (standing after)
  unfolding KeepsLaw
  performs_law before after c r p h led =
      let m = meaning before.stage in let n = before.number in let b = page before.register in
      let answer = of_lines (told meaning (standing before) c) before.register c r (distinct_rows (events h) b led.1) p.told in
      subst (λ (s : Standing S). Led m n ((c, r) ∷ h) s.page) (sym p.stands) (law_step OfLines unordered m n h b led.1 led.0 c r answer)

  -- with a call that has one right answer
  pub keeps_law : (before after : Standing S) (c : Call) (r : Outcome) → after ≡ goes meaning before c → Some r ≡ told meaning before c → KeepsLaw meaning before c r after
  unfolding KeepsLaw
  keeps_law before after c r stands e h led =
      let m = meaning before.stage in
      subst (λ (s : Standing S). Led m before.number ((c, r) ∷ h) s.page) (sym stands)
      (law_step OfLines unordered m before.number h before.page led.1 led.0 c r (right (told meaning before c) r (OfLines (rows before.page) c r) e))

-- so with the questions about lines, which change nothing
module _ {S : Type 0} (meaning : S → Meaning) (k : Channel S) where
  pub verdict_law : (v : Result Verdict Refusal) → TellsVerdict (held k.register.places.all) v → KeepsLaw meaning (standing k) call.Verdict (answered judged v) (standing k)
  verdict_law v tells = performs_law meaning k k call.Verdict (answered judged v) (record { stands = refl; told = (v, refl, tells) })

  pub slope_law : (p : Result (Fraction × Fraction) Refusal) → TellsSlope (held k.register.places.all) p → KeepsLaw meaning (standing k) call.Slope (answered sloped p) (standing k)
  slope_law p tells = performs_law meaning k k call.Slope (answered sloped p) (record { stands = refl; told = (p, refl, tells) })

  pub value_law : (x : ℤ) (p : Result (Fraction × Fraction) Refusal) → TellsValue (held k.register.places.all) x p → KeepsLaw meaning (standing k) (call.Value x) (answered valued p) (standing k)
  value_law x p tells = performs_law meaning k k (call.Value x) (answered valued p) (record { stands = refl; told = (p, refl, tells) })

-- no call leads to the blank book
pub led_none : (m : Meaning) (n : ℕ) (b : Book) → b ≡ blank → Led m n [] b
unfolding events Lawful
led_none m n b e = subst (Led m n []) (sym e) (tt, agrees_blank)

pub ruleset law = (keeps_law, verdict_law, slope_law, value_law, to_z-of_z)
