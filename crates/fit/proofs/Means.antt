-- The whole check passes exactly where the bytes are the image of an arrangement.
-- Assumes nothing.
use Prim.Native.Nat.{ℕ, ◌+◌, ◌-◌, ◌*◌, ◌≤◌, ◌<◌}
use mathlib.Core.Path.{◌≡◌, refl, sym, ap, ◌∙◌, subst}
use mathlib.Core.Bool.{Bool, true, false, ◌&&◌}
use mathlib.Core.List.{List, ◌++◌, Memᴰ as Mem}
use mathlib.Core.Logic.{⊎_elim}
use mathlib.Core.Option.{Option, none, some}
use native.Mathlib.Omega.{arith}
use lib.Dec.{ltb, leb, eqb}
use lib.ListN.{length, length-append}
use borrow.Author.Tests.{ltb-true, leb-true, eqb-true, eqb-false, lt-ltb, le-leb, eq-eqb, ne_eqb}
use Rattle.words.specs.Word.{Bytes}
use Rattle.nodes.specs.declared.header.Header.{Header}
use Rattle.nodes.specs.Nodes.{node_at, header_at}
use Rattle.nodes.specs.Laws.{header_fits}
use Rattle.std.specs.Prelude.{if◌then◌else◌}
use Rattle.rules.specs.State.{Entry, Rising}
use Rattle.rules.specs.Tree.{entries, newest}
use Rattle.rules.proofs.Tests.{le_or_lt}
use Rattle.rules.proofs.Newest.{newest_max, newest_leaf}
use Rattle.rules.specs.Shape.{Canonical}
use Rattle.rules.proofs.Trees.{tree_of_canonical, canonical_rising, tree_of_entries, tree_none}
use Rattle.pool.specs.Plan.{Plan, tree_in, number, numbers, no_node}
use Rattle.pool.specs.Image.{Arrangement, tree_or, root_or, numbers_or, state_of, AllBelow, Holds, HoldsTree, Image, Fit}
use Rattle.pool.proofs.Words.{newest_held}
use Rattle.pool.proofs.Placed.{placed_canonical, canonical_placed}
use Rattle.pool.proofs.Apart.{numbers_count, free_distinct, all_distinct}
use Rattle.fit.specs.Whole.{Decides, tree_ok, free_count, leaves_from, Head, chain_ok}
use Rattle.fit.proofs.Tests.{and_both, differ}
use Rattle.fit.proofs.Sound.{Good, StandsWithin, sound, below_append}
use Rattle.fit.proofs.Complete.{complete, some_leaf, below_left, below_right, root_below}
use Rattle.fit.proofs.FreeLaws.{Chained, chain_sound, chain_complete}

-- the whole check of a header h that was read
pub record Checked (m : List ℕ) : Type 0 where
  pub head : Head m
  pub tree : tree_ok m (2 * (header_at m).limit) (header_at m).root (header_at m).kept (header_at m).position ≡ true
  pub chain : chain_ok m (2 * (header_at m).limit) (free_count (header_at m).limit (header_at m).kept) (header_at m).free ≡ true

header_is : (h : Header) {a n z p k r f : ℕ} → h.mark ≡ a → h.limit ≡ n → h.zone ≡ z → h.position ≡ p → h.kept ≡ k → h.root ≡ r → h.free ≡ f
    → h ≡ record { mark = a; limit = n; zone = z; position = p; kept = k; root = r; free = f }
header_is h e0 e1 e2 e3 e4 e5 e6 = λ i. record { mark = e0 i; limit = e1 i; zone = e2 i; position = e3 i; kept = e4 i; root = e5 i; free = e6 i }

-- SOUND

module _ (m : List ℕ) (bytes : Bytes m) (hd : Head m) where
  -- no key is kept
  empty_fit : (header_at m).kept ≡ 0 → (header_at m).root ≡ no_node → Chained m (2 * (header_at m).limit) (2 * (header_at m).limit) (header_at m).free → Fit m
  unfolding entries
  empty_fit ek er c =
      record {
        arrangement = record { N = (header_at m).limit; Z = (header_at m).zone; p = (header_at m).position; tree = none; free = c.free };
        image = record {
          arranged = record {
            lawful = record {
              limit_N = hd.limit_N;
              limit_Z = hd.limit_Z;
              last = omega (arith, (header_fits m bytes).1.1.1.0);
              few = omega arith;
              rising = Rising.end {low = 0} (omega arith);
              positions = λ e s. elim s [ ];
              payloads = λ e s. elim s [ ];
            };
            shape = sym (tree_none 32 0);
            below = c.below;
            distinct = free_distinct m c.free c.holds;
            all = c.is_length;
          };
          size = hd.size;
          bytes = bytes;
          header = header_is (header_at m) hd.marked refl refl refl ek er (sym c.is_first);
          zeros = hd.zeros;
          tree = tt;
          free = c.holds;
        };
      }

  module _ (s : StandsWithin m (2 * (header_at m).limit) (header_at m).root 0 4294967296 (header_at m).kept) where
    canonical : Canonical 32 0 (tree_in s.tree)
    canonical = placed_canonical s.placed 32 0 (omega arith) (omega arith)

    known : (e : Entry) → Mem e (entries (tree_in s.tree)) → (node_at m (header_at m).root).newest ≤ (header_at m).position → (1 ≤ e.position) × (e.position ≤ (header_at m).position)
    known e q l =
        let r : (node_at m (header_at m).root).newest ≡ newest (tree_in s.tree) = ap (λ (j : ℕ). (node_at m j).newest) (sym s.is_number) ∙ newest_held m s.tree s.holds in
        ((s.good e q).0, omega (arith, r, newest_max (tree_in s.tree) q))

    -- some keys are kept
    full_fit : (k : ℕ) → 1 ≤ (header_at m).kept → k ≡ 2 * (header_at m).limit + 1 - 2 * (header_at m).kept → (node_at m (header_at m).root).newest ≤ (header_at m).position
        → Chained m (2 * (header_at m).limit) k (header_at m).free → Fit m
    full_fit k held ek late c =
        record {
          arrangement = record { N = (header_at m).limit; Z = (header_at m).zone; p = (header_at m).position; tree = some s.tree; free = c.free };
          image = record {
            arranged = record {
              lawful = record {
                limit_N = hd.limit_N;
                limit_Z = hd.limit_Z;
                last = omega (arith, (header_fits m bytes).1.1.1.0);
                few = omega (arith, s.count, hd.few);
                rising = canonical_rising canonical;
                positions = λ e q. known e q late;
                payloads = λ e q. (s.good e q).1;
              };
              shape = sym (tree_of_entries canonical);
              below = below_append (2 * (header_at m).limit) (numbers s.tree) c.free s.below c.below;
              distinct = all_distinct m c.free s.placed (omega arith) s.holds c.holds;
              all = length-append (numbers s.tree) c.free ∙ omega (arith, numbers_count s.tree, s.count, c.is_length, hd.few);
            };
            size = hd.size;
            bytes = bytes;
            header = header_is (header_at m) hd.marked refl refl refl (sym s.count) (sym s.is_number) (sym c.is_first);
            zeros = hd.zeros;
            tree = s.holds;
            free = c.holds;
          };
        }

  pub whole_sound : tree_ok m (2 * (header_at m).limit) (header_at m).root (header_at m).kept (header_at m).position ≡ true
      → chain_ok m (2 * (header_at m).limit) (free_count (header_at m).limit (header_at m).kept) (header_at m).free ≡ true → Fit m
  unfolding tree_ok
  whole_sound t c = go (eqb (header_at m).kept 0) refl t c
    where
      go : (b : Bool) → eqb (header_at m).kept 0 ≡ b
          → (if b then eqb (header_at m).root no_node else (ltb (header_at m).root (2 * (header_at m).limit) && (leb (node_at m (header_at m).root).newest (header_at m).position && eqb (leaves_from m (2 * (header_at m).limit) (header_at m).root) (header_at m).kept))) ≡ true
          → chain_ok m (2 * (header_at m).limit) (if b then 2 * (header_at m).limit else 2 * (header_at m).limit + 1 - 2 * (header_at m).kept) (header_at m).free ≡ true → Fit m
      go true e t c = empty_fit (eqb-true (header_at m).kept 0 e) (eqb-true (header_at m).root no_node t) (chain_sound m (2 * (header_at m).limit) (2 * (header_at m).limit) (header_at m).free c)
      go false e t c =
          let nz = eqb-false (header_at m).kept 0 e in
          let a = and_both (ltb (header_at m).root (2 * (header_at m).limit)) _ t in
          let b = and_both (leb (node_at m (header_at m).root).newest (header_at m).position) _ a.1 in
          let same : leaves_from m (2 * (header_at m).limit) (header_at m).root ≡ (header_at m).kept = eqb-true (leaves_from m (2 * (header_at m).limit) (header_at m).root) (header_at m).kept b.1 in
          let s = sound m (2 * (header_at m).limit) bytes 33 (header_at m).root 0 4294967296 (ltb-true (header_at m).root (2 * (header_at m).limit) a.0) (λ z. nz (sym same ∙ z)) in
          full_fit (subst (λ (x : ℕ). StandsWithin m (2 * (header_at m).limit) (header_at m).root 0 4294967296 x) same s) _ (omega (arith, nz)) refl
          (leb-true (node_at m (header_at m).root).newest (header_at m).position b.0) (chain_sound m (2 * (header_at m).limit) _ (header_at m).free c)

-- COMPLETE

module _ (m : List ℕ) (A : Arrangement) (f : Image m A) where
  h_limit : (header_at m).limit ≡ A.N
  h_limit = ap (λ (h : Header). h.limit) f.header

  h_zone : (header_at m).zone ≡ A.Z
  h_zone = ap (λ (h : Header). h.zone) f.header

  h_kept : (header_at m).kept ≡ length (state_of A).kept
  h_kept = ap (λ (h : Header). h.kept) f.header

  pub image_head : Head m
  image_head =
      record {
        marked = ap (λ (h : Header). h.mark) f.header;
        limit_N = rw h_limit f.arranged.lawful.limit_N;
        limit_Z = rw h_zone f.arranged.lawful.limit_Z;
        size = rw h_limit f.size;
        few = rw (h_limit, h_kept) f.arranged.lawful.few;
        zeros = f.zeros;
      }

  -- the tree's part, for either kind of tree
  tree_part : (t : Option Plan) → A.tree ≡ t → tree_ok m (2 * A.N) (root_or t) (length (entries (tree_or t))) A.p ≡ true
  unfolding tree_ok entries
  tree_part none e = refl
  tree_part (some P) e =
      let kept : entries (tree_or A.tree) ≡ entries (tree_in P) = ap (λ (t : Option Plan). entries (tree_or t)) e in
      let placed = canonical_placed (tree_of_canonical 32 0 f.arranged.lawful.rising) 0 (omega arith) P (ap tree_or (sym e) ∙ f.arranged.shape) in
      let holds : Holds m P = subst (λ (t : Option Plan). HoldsTree m t) e f.tree in
      let below : AllBelow (2 * A.N) (numbers P) = subst (λ (t : Option Plan). AllBelow (2 * A.N) (numbers_or t)) e (below_left (2 * A.N) (numbers_or A.tree) A.free f.arranged.below) in
      let good : (x : Entry) → Mem x (entries (tree_in P)) → Good x = λ x s. let s' : Mem x (entries (tree_or A.tree)) = subst (λ (es : List Entry). Mem x es) (sym kept) s in ((f.arranged.lawful.positions x s').0, f.arranged.lawful.payloads x s') in
      let count : leaves_from m (2 * A.N) (number P) ≡ length (entries (tree_in P)) = complete m (2 * A.N) placed holds below good (omega arith) 33 (omega arith) in
      let late : newest (tree_in P) ≤ A.p = ⊎_elim (λ l. l) (λ (l : A.p < newest (tree_in P)). let x = newest_leaf A.p (tree_in P) l in absurd (omega (arith, x.2, (f.arranged.lawful.positions x.0 (subst (λ (es : List Entry). Mem x.0 es) (sym kept) x.1)).1))) (le_or_lt (newest (tree_in P)) A.p) in
      rw (
        ne_eqb (length (entries (tree_in P))) 0 (λ z. omega (arith, some_leaf P)),
        lt-ltb (number P) (2 * A.N) (root_below (2 * A.N) P below),
        newest_held m P holds,
        le-leb (newest (tree_in P)) A.p late,
      ) (eq-eqb (leaves_from m (2 * A.N) (number P)) (length (entries (tree_in P))) count)

  free_part : (t : Option Plan) → A.tree ≡ t → length A.free ≡ free_count A.N (length (entries (tree_or t)))
  unfolding entries
  free_part none e = subst (λ (t : Option Plan). length (numbers_or t ++ A.free) ≡ 2 * A.N) e f.arranged.all
  free_part (some P) e =
      let all : length (numbers P ++ A.free) ≡ 2 * A.N = subst (λ (t : Option Plan). length (numbers_or t ++ A.free) ≡ 2 * A.N) e f.arranged.all in
      rw (ne_eqb (length (entries (tree_in P))) 0 (λ z. omega (arith, some_leaf P))) (omega (arith, all, length-append (numbers P) A.free, numbers_count P, some_leaf P))

  pub whole_complete : Checked m
  whole_complete =
      record {
        head = image_head;
        tree = rw f.header (tree_part A.tree refl);
        chain = rw (f.header, ← (free_part A.tree refl)) (chain_complete m (2 * A.N) A.free f.free (below_right (2 * A.N) (numbers_or A.tree) A.free f.arranged.below));
      }

-- what the code knows at each of its answers
module _ (m : List ℕ) where
  pub fit_checked : Fit m → Checked m
  fit_checked f = whole_complete m f.arrangement f.image

  pub too_short : length m < 64 → Fit m → ⊥
  too_short l f = omega (arith, f.image.size)

  -- the tree does not pass
  pub fit_refused : (h : Header) → h ≡ header_at m → (t : Bool) → t ≡ tree_ok m (2 * h.limit) h.root h.kept h.position → t ≡ false → Decides (Fit m) t
  fit_refused h e t et n = record { sound = λ z. differ (sym z ∙ n); complete = λ f. et ∙ rw e (fit_checked f).tree }

  -- header and tree have passed: the free nodes decide
  pub fit_last : (h : Header) → h ≡ header_at m → Bytes m → Head m → true ≡ tree_ok m (2 * h.limit) h.root h.kept h.position
      → (c : ℕ) → c ≡ free_count h.limit h.kept → (r : Bool) → r ≡ chain_ok m (2 * h.limit) c h.free → Decides (Fit m) r
  fit_last h e bytes hd et c ec r er =
      record {
        sound = λ z. whole_sound m bytes hd (rw e at (sym et)) (rw (ec, e) at (sym er ∙ z));
        complete = λ f. er ∙ rw (ec, e) (fit_checked f).chain;
      }
