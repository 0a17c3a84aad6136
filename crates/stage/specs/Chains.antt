-- The meaning of a chain, from the meanings of its two parts.
use Rattle.std.specs.Prelude.{◌+◌, cond, ◌&&◌, ℤ}
use Rattle.stage.specs.Meaning.{Meaning}

-- the upper stage is handed the reading, the lower one first the lower and then the upper end of what the upper one tells; the
-- first refusal counts, and one of the lower stage has the number of the stages above it added to its place
abbrev pub chained : Meaning → Meaning → Meaning
chained u l = record {
  count = u.count + l.count;
  taken = λ r. u.taken r && (l.taken (u.lower r) && l.taken (u.upper r));
  lower = λ r. l.lower (u.lower r);
  upper = λ r. l.upper (u.upper r);
  place = λ r. cond (u.taken r) (u.count + l.place (refused r)) (u.place r);
  value = λ r. cond (u.taken r) (l.value (refused r)) (u.value r);
}
  where
    -- the end that the lower stage refuses
    refused : ℤ → ℤ
    refused r = cond (l.taken (u.lower r)) (u.upper r) (u.lower r)
