-- Joined or one by one (R58): what joining gave, the two ways from one pool, and what is said of them.
-- Assumes nothing: these are definitions.
use Rattle.std.specs.Prelude.{ℕ, ◌≡◌, ◌⊎◌, List, take, Ok}
use Rattle.std.proofs.Math.Option.{none}
use Rattle.record.specs.Answer.{committed, conflict}
use Rattle.joiner.specs.Joiner.{JoinsAs}
use Rattle.meld.specs.declared.kept.Lookup.{Lookup}
use Rattle.meld.specs.declared.melding.Melded.{Melded}
use Rattle.meld.specs.Lookups.{lookup_told, LooksUp}
use Rattle.meld.specs.Melds.{Melds}

-- R56: joining a and b gave a size, and j is what then stood at the front of the output
pub record GaveJoined (a b j : List ℕ) : Type 0 where
  pub before : List ℕ
  pub after : List ℕ
  pub size : ℕ
  pub joins : JoinsAs a b before (Ok size) after
  pub stands : j ≡ take size after

-- R58: two ways from one pool m: j melded into it, answered x; or a melded into it, answered y, and b behind a, answered z
pub record TwoWays (m a b j : List ℕ) : Type 0 where
  pub x : Melded
  pub m_j : List ℕ
  pub melds_j : Melds m j m_j x
  pub y : Melded
  pub m_a : List ℕ
  pub melds_a : Melds m a m_a y
  pub z : Melded
  pub m_b : List ℕ
  pub melds_b : Melds m_a b m_b z

-- R58: neither lookup says 7, and both say the same payload, or both absent; the positions may differ
pub record SameFound (u w : Lookup) : Type 0 where
  pub fit_u : (lookup_told u).answer ≡ none
  pub fit_w : (lookup_told w).answer ≡ none
  pub payload : (lookup_told u).payload ≡ (lookup_told w).payload

-- R58: if j is answered 0, a and b are, and a lookup of any key says the same after j as after a and b; if j is answered 1, a or b is
pub record JoinedAlike (m a b j : List ℕ) (two : TwoWays m a b j) : Type 0 where
  pub commits : two.x.answer ≡ committed
      → (two.y.answer ≡ committed) × (two.z.answer ≡ committed) × ((k : ℕ) (u w : Lookup) → LooksUp two.m_j k u → LooksUp two.m_b k w → SameFound u w)
  pub conflicts : two.x.answer ≡ conflict → (two.y.answer ≡ conflict) ⊎ (two.z.answer ≡ conflict)
