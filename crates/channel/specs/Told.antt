-- The answers of the calls, as a history notes them.
use Rattle.exact.specs.declared.fraction.Fraction.{Fraction}
use Rattle.questions.specs.declared.verdict.Verdict.{Verdict}
use Rattle.questions.specs.declared.verdict.Verdict.TheVariants as verdict
use Rattle.book.specs.declared.answer.Answer.{Answer}
use Rattle.book.specs.declared.answer.Answer.TheVariants as answer
use Rattle.channel.specs.declared.point.Point.{Point}
use Rattle.channel.specs.declared.filed.Filed.{Filed}

abbrev pub opened : Point → Answer
opened p = answer.Opened p.number p.serial

abbrev pub filed : Filed → Answer
filed f = answer.Filed f.serial f.set.lower f.set.upper

abbrev pub judged : Verdict → Answer
judged verdict.Line = answer.Line
judged (verdict.Conflict c) = answer.Conflicting c

abbrev pub sloped : Fraction × Fraction → Answer
sloped p = answer.Slope p.0 p.1

abbrev pub valued : Fraction × Fraction → Answer
valued p = answer.Value p.0 p.1
