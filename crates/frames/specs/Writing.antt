-- How a frame is written, and that the tape says just what was written.
use Rattle.std.specs.Prelude.{◌≡◌, ℕ, suc, ◌+◌, ◌-◌, ◌*◌, ◌/◌, ◌%◌, ◌^◌, ◌<◌, List, [], ◌∷◌, ◌++◌, length, take, ℤ, pos, negsuc}
use Rattle.std.specs.List.{AllByRecursion}
use Rattle.frames.specs.Tape.{Meaning, load, reading, abort, withdraw, verdict, slope, value, tallies, clear, frame, said}

-- the k bits of a number in two's complement
abbrev pub bits : ℕ → ℤ → ℕ
bits k (pos n) = n
bits k (negsuc n) = 2 ^ k - suc n

-- the number has k bits in two's complement
abbrev pub Within : ℕ → ℤ → Type 0
Within k (pos n) = n < 2 ^ (k - 1)
Within k (negsuc n) = n < 2 ^ (k - 1)

-- a first byte, and 16 bits
abbrev pub with_argument : ℕ → ℕ → List ℕ
with_argument head n = head ∷ (n / 256) ∷ (n % 256) ∷ []

-- four bits for the kind, and 28 bits
abbrev pub with_number : ℕ → ℕ → List ℕ
with_number kind n = (16 * kind + n / 2 ^ 24) ∷ (n / 2 ^ 16 % 256) ∷ (n / 2 ^ 8 % 256) ∷ (n % 256) ∷ []

abbrev pub bytes_of : Meaning → List ℕ
bytes_of (load x) = with_argument 16 (bits 16 x)
bytes_of (reading r) = with_number 2 (bits 28 r)
bytes_of (abort reason) = (48 + length reason) ∷ reason
bytes_of (withdraw serial) = with_number 4 serial
bytes_of verdict = 81 ∷ []
bytes_of slope = 82 ∷ []
bytes_of (value x) = with_argument 83 (bits 16 x)
bytes_of tallies = 84 ∷ []
bytes_of clear = 96 ∷ []

-- what a frame can say
abbrev pub Writable : Meaning → Type 0
Writable (load x) = Within 16 x
Writable (reading r) = Within 28 r
Writable (abort reason) = length reason < 16
Writable (withdraw serial) = serial < 2 ^ 28
Writable verdict = Unit {0}
Writable slope = Unit {0}
Writable (value x) = Within 16 x
Writable tallies = Unit {0}
Writable clear = Unit {0}

-- a frame that is written is read as what it says, and just its own bytes are read
abbrev pub ReadAsWritten : Type 0
ReadAsWritten = (m : Meaning) (rest : List ℕ) → Writable m → said (bytes_of m ++ rest) ≡ frame m (length (bytes_of m))

-- only the bytes that are written for it are read as a frame
abbrev pub WrittenAsRead : Type 0
WrittenAsRead = (tape : List ℕ) (m : Meaning) (n : ℕ) → AllByRecursion (λ b. b < 256) tape → said tape ≡ frame m n → Writable m × (take n tape ≡ bytes_of m) × (n ≡ length (bytes_of m))
