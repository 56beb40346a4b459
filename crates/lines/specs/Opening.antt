-- Opening an input: its first eight bytes are the limits, and the pool for them is created at the front of the bytes lent (R41, R46, R18).
-- Assumes nothing: these are definitions.
use Rattle.std.specs.Prelude.{◌≡◌, ℕ, ◌+◌, ◌*◌, ◌≤◌, ◌==◌, if◌then◌else◌, List, length, take, drop, Result, Ok, Err}
use Rattle.words.specs.Word.{word}
use Rattle.record.specs.Answer.{committed, bad_limits}
use Rattle.create.specs.Fresh.{Created}
use Rattle.record.specs.declared.answer.Answer.{Answer}

-- N, the first four bytes of an input (R41)
abbrev pub limit_n : List ℕ → ℕ
limit_n head = word 4 head 0

-- Z, the next four (R41)
abbrev pub limit_z : List ℕ → ℕ
limit_z head = word 4 head 4

-- the bytes of a pool for N keys (R18)
abbrev pub size_for : ℕ → ℕ
size_for N = 64 + 64 * N

-- an input asks for a pool that a program makes: it has eight bytes, its N is at most the program's largest (R41, R46), and the bytes lent
-- are enough
pub record Asks (most : ℕ) (head : List ℕ) (room : ℕ) : Type 0 where
  pub eight : 8 ≤ length head
  pub few : limit_n head ≤ most
  pub fits : size_for (limit_n head) ≤ room

-- the size of a pool that was created, or the answer where none was
abbrev pub size_told : Answer → ℕ → Result ℕ Answer
size_told a size = if a.number == committed.number then Ok size else Err a

-- the front of the bytes lent, as many as a pool for N has, is what `create` makes of it, and its answer is told, with the size where it is 0; the
-- bytes behind are kept
pub record Makes (m : List ℕ) (N Z : ℕ) (r : Result ℕ Answer) (m' : List ℕ) : Type 0 where
  pub answer : Answer
  pub told : r ≡ size_told answer (size_for N)
  pub created : Created (take (size_for N) m) N Z answer (take (size_for N) m')
  pub behind : drop (size_for N) m' ≡ drop (size_for N) m

-- what opening promises of a program's largest N, the bytes lent m, an input's first bytes, the answer and the bytes m' left behind
pub record Opens (most : ℕ) (m head : List ℕ) (r : Result ℕ Answer) (m' : List ℕ) : Type 0 where
  pub asked : Asks most head (length m) → Makes m (limit_n head) (limit_z head) r m'
  pub refused : (Asks most head (length m) → ⊥) → (r ≡ Err bad_limits) × (m' ≡ m)
  pub within : (size : ℕ) → r ≡ Ok size → size ≤ length m'

-- the limits are there and within their ranges, for a program's largest N (R41, R46, R2)
pub record InRange (most : ℕ) (head : List ℕ) : Type 0 where
  pub eight : 8 ≤ length head
  pub least_n : 1 ≤ limit_n head
  pub most_n : limit_n head ≤ most
  pub least_z : 1 ≤ limit_z head
  pub most_z : limit_z head ≤ 4096

-- a pool just created for N and Z, out of any bytes (R18)
pub record New (m : List ℕ) : Type 0 where
  pub N : ℕ
  pub Z : ℕ
  pub lent : List ℕ
  pub created : Created lent N Z committed m
