-- Which lines have a reason.
use Rattle.std.proofs.Common.{◌≡◌, ℕ, [], None, Ok, refl}
use Rattle.refusal.specs.declared.refusal.Refusal.{Refusal}
use Rattle.refusal.specs.declared.refusal.Refusal.TheVariants.{ReadingNotTaken}
use Rattle.questions.specs.declared.verdict.Verdict.{Verdict}
use Rattle.questions.specs.declared.verdict.Verdict.TheVariants as verdict
use Rattle.channel.specs.Told.{judged}
use Rattle.printout.specs.Text.{reason_of}
use Rattle.player.specs.Lines.{unfiled}
use Rattle.player.specs.Script.{handed}

pub no_reason : (s : ℕ) (e : Refusal) → reason_of (unfiled s e) ≡ []
no_reason s (ReadingNotTaken place value) = refl
no_reason s e = refl

pub hands_none : (v : Verdict) → None ≡ handed (Ok (judged v))
hands_none verdict.Line = refl
hands_none (verdict.Conflict c) = refl
