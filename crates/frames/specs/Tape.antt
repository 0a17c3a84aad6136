-- What the bytes of a tape say. Frames are bit-packed, the most significant bit first: four bits for the kind, and then what the kind has.
use Rattle.std.specs.Prelude.{ℕ, ◌+◌, ◌-◌, ◌*◌, ◌/◌, ◌%◌, ◌^◌, cond, List, [], ◌∷◌, length, take, ℤ, pos, ◌-ℤ◌, ◌==◌, nat_lt}

-- what a frame says: the argument of a load or of the question for a value, the reading, the bytes of an abort's reason, the serial to withdraw
pub data Meaning : Type 0 where
  load : ℤ → Meaning
  reading : ℤ → Meaning
  abort : List ℕ → Meaning
  withdraw : ℕ → Meaning
  verdict : Meaning
  slope : Meaning
  value : ℤ → Meaning
  tallies : Meaning
  clear : Meaning

-- what stands at a place of a tape: its end, a frame of so many bytes, a frame cut short, or none that is known
pub data Said : Type 0 where
  ended : Said
  frame : Meaning → ℕ → Said
  cut_short : Said
  unknown : Said

-- the bits of n, and then the bits of the bytes, as one number
abbrev pub number : ℕ → List ℕ → ℕ
number n [] = n
number n (b ∷ bytes) = number (256 * n + b) bytes

-- what k bits say in two's complement
abbrev pub signed : ℕ → ℕ → ℤ
signed k n = cond (nat_lt n (2 ^ (k - 1))) (pos n) (pos n -ℤ pos (2 ^ k))

-- a frame that has n bytes after its first: these have to be there
abbrev pub whole : ℕ → List ℕ → Said → Said
whole n rest s = cond (nat_lt (length rest) n) cut_short s

-- filler bits have to be zero
abbrev pub filled : ℕ → Said → Said
filled filler s = cond (filler == 0) s unknown

-- an argument of 16 bits
abbrev pub argument : List ℕ → ℤ
argument rest = signed 16 (number 0 (take 2 rest))

-- a question of this code
abbrev pub question : ℕ → List ℕ → Said
question code rest =
    cond (code == 1) (frame verdict 1) (
    cond (code == 2) (frame slope 1) (
    cond (code == 3) (whole 2 rest (frame (value (argument rest)) 3)) (
    cond (code == 4) (frame tallies 1)
    unknown)))

-- a frame of this kind, with these four bits and these bytes after it
abbrev pub of_kind : ℕ → ℕ → List ℕ → Said
of_kind kind low rest =
    cond (kind == 1) (whole 2 rest (filled low (frame (load (argument rest)) 3))) (
    cond (kind == 2) (whole 3 rest (frame (reading (signed 28 (number low (take 3 rest)))) 4)) (
    cond (kind == 3) (whole low rest (frame (abort (take low rest)) (1 + low))) (
    cond (kind == 4) (whole 3 rest (frame (withdraw (number low (take 3 rest))) 4)) (
    cond (kind == 5) (question low rest) (
    cond (kind == 6) (filled low (frame clear 1))
    unknown)))))

-- what the bytes from a place on say
abbrev pub said : List ℕ → Said
said [] = ended
said (head ∷ rest) = of_kind (head / 16) (head % 16) rest

-- how far that moves a reader
abbrev pub moved : Said → ℕ
moved ended = 0
moved (frame m n) = n
moved cut_short = 0
moved unknown = 0

-- how many bytes a frame has besides its reason, by its kind and the four bits after it; 0 for what is unknown
abbrev pub fixed_length : ℕ → ℕ → ℕ
fixed_length kind low =
    cond (kind == 1) 3 (
    cond (kind == 2) 4 (
    cond (kind == 3) 1 (
    cond (kind == 4) 4 (
    cond (kind == 5) (cond (low == 1) 1 (cond (low == 2) 1 (cond (low == 3) 3 (cond (low == 4) 1 0)))) (
    cond (kind == 6) 1
    0)))))
