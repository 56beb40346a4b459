-- The steps of a commit, one behind the other: each asks what the one before leaves.
-- Assumes nothing.
use Prim.Native.Nat.{ℕ, ◌+◌, ◌-◌, ◌≤◌}
use mathlib.Core.Path.{◌≡◌, sym, ap, ◌∙◌, subst}
use mathlib.Core.List.{List}
use native.Mathlib.Omega.{arith}
use lib.ListN.{length}
use Rattle.nodes.specs.declared.header.Header.{Header}
use Rattle.nodes.specs.Nodes.{header_at}
use Rattle.rules.specs.State.{Entry}
use Rattle.rules.specs.Verdict.{store_all}
use Rattle.pool.specs.Image.{Arrangement, Image}
use Rattle.drop.specs.Drop.{drop_in}
use Rattle.advance.specs.Moved.{moved_on}
use Rattle.drop.proofs.Arranging.{drop_kept}
use Rattle.commit.specs.Applied.{writes_in, Applicable, Applies}
use Rattle.commit.specs.Commit.{old_at, commit_in, commit_lean, Committable, not_old}

module _ (m kinds ks xs m₁ : List ℕ) (moved : (A : Arrangement) → Image m A → Image m₁ (moved_on A)) where
  pub writes_leave : (m₂ : List ℕ) → Applies m₁ kinds ks xs m₂ → (A : Arrangement) → Image m A → Image m₂ (commit_in kinds ks xs A)
  writes_leave m₂ f A i = f (moved_on A) (moved A i)

  module _ (c : Committable m kinds ks xs not_old) where
    module _ (h : Header) (eh : h ≡ header_at m₁) (limit : ℕ) (el : limit ≡ h.position - h.zone) where
      limit_is : (A : Arrangement) → Image m A → limit ≡ old_at A
      limit_is A i =
          let e = eh ∙ (moved A i).header in
          let p : h.position ≡ A.p + 1 = ap (λ (x : Header). x.position) e in
          let z : h.zone ≡ A.Z = ap (λ (x : Header). x.zone) e in
          omega arith

      module _ (m₂ : List ℕ) (dropped : (A : Arrangement) → Image m₁ A → Image m₂ (drop_in limit A)) where
        lean : (A : Arrangement) → Image m A → Image m₂ (drop_in (old_at A) (moved_on A))
        lean A i = subst (λ (n : ℕ). Image m₂ (drop_in n (moved_on A))) (limit_is A i) (dropped (moved_on A) (moved A i))

        pub lean_apply : Applicable m₂ kinds ks xs
        lean_apply =
            let A = c.arrangement in
            record {
              arrangement = drop_in (old_at A) (moved_on A);
              image = lean A c.image;
              written_at = omega arith;
              as_many_keys = c.as_many_keys;
              as_many_payloads = c.as_many_payloads;
              sized = c.sized;
              room = subst (λ (es : List Entry). length (store_all (writes_in (A.p + 1) kinds ks xs) es) ≤ A.N) (sym (drop_kept (old_at A) (moved_on A))) c.room;
            }

        pub lean_leave : (m₃ : List ℕ) → Applies m₂ kinds ks xs m₃ → (A : Arrangement) → Image m A → Image m₃ (commit_lean kinds ks xs A)
        lean_leave m₃ f A i = f (drop_in (old_at A) (moved_on A)) (lean A i)
