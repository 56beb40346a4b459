-- Big-endian numbers of k bytes in a list of bytes: the first byte weighs most.
-- Assumes nothing: these are definitions.
use Rattle.std.specs.Prelude.{ℕ, zero, suc, ◌+◌, ◌*◌, ◌/◌, ◌%◌, ◌<◌, List, [], ◌∷◌, ◌++◌, get_or}
use Rattle.std.proofs.lemmas.List.Edits.{sets}

-- R1: every element is a byte
pub record Bytes (s : List ℕ) : Type 0 where
  pub byte : (i : ℕ) → get_or s i 0 < 256

-- R1: the number that the k bytes from place at on make, the first byte weighing most
unfoldable pub word : ℕ → List ℕ → ℕ → ℕ
word zero s at = 0
word (suc k) s at = word k s at * 256 + get_or s (at + k) 0

-- R1: the k bytes that make x
unfoldable pub big_endian : ℕ → ℕ → List ℕ
big_endian zero x = []
big_endian (suc k) x = big_endian k (x / 256) ++ (x % 256 ∷ [])

-- R1: s with the k bytes that make x stored from place at on
unfoldable pub put_word : ℕ → List ℕ → ℕ → ℕ → List ℕ
put_word k s at x = sets s at (big_endian k x)
