-- R44 and R55 on bytes: what a card says over the log of each table.
-- The idea: the log's walk hands out the records again (`joined_walks`), a card follows the rules over them (`pool_after_log`), and
-- what the rules say of them is computed (`table`).
-- Assumes nothing.
use Prim.Native.Nat.{ℕ, zero, suc, ◌+◌, ◌≤◌, ◌<◌}
use mathlib.Core.Path.{◌≡◌, refl, sym, ap, ◌∙◌, subst}
use mathlib.Core.Bool.{Bool, true, ◌&&◌}
use mathlib.Core.Option.{Option, some}
use mathlib.Core.List.{List, [], ◌∷◌, map}
use native.Mathlib.Omega.{arith}
use lib.ListN.{length, get_or}
use lib.Dec.{T, ltb, ltb→lt}
use Rattle.words.specs.Word.{Bytes}
use Rattle.words.specs.Laws.{bytes_append}
use Rattle.record.specs.Record.{Rec}
use Rattle.record.specs.Parse.{parse}
use Rattle.record.proofs.RoundTrip.{bytes_of_parse}
use Rattle.record_log.specs.declared.found.Cut.{Cut}
use Rattle.record_log.specs.declared.found.Cut.TheVariants.{End}
use Rattle.record_log.specs.PartSized.{PartSized, PartsSized, no_part}
use Rattle.record_log.specs.Walk.{joined}
use Rattle.record_log.proofs.Walk.{joined_walks, walks_once}
use Rattle.rules.specs.State.{State, key_in, fresh, last_position}
use Rattle.rules.specs.Verdict.{next}
use Rattle.rules.specs.Log.{after}
use Rattle.rules.specs.Table.{Row, rows, delete_rows, bytes_in, rec_of, Line, run, Holds}
use Rattle.rules.proofs.Positions.{next_p}
use Rattle.rules.proofs.Tests.{left_of_lem, right_of_lem}
use Rattle.rules.proofs.AllRows.{table}
use Rattle.meld.specs.declared.melding.Melded.{Melded}
use Rattle.meld.specs.Melds.{melded_of}
use Rattle.demands.specs.Runs.{verdicts, Whole}
use Rattle.demands.specs.TableLog.{log_of, lines_from, TableRun}
use Rattle.demands.proofs.Following.{AllBytes, no_bytes, more_bytes}
use Rattle.demands.proofs.Once.{record_sized}
use Rattle.demands.proofs.Cards.{pool_after_log}

-- BYTES

-- a test that each number is a byte
abbrev are_bytes : List ℕ → Bool
are_bytes [] = true
are_bytes (n ∷ s) = ltb n 256 && are_bytes s

bytes_tested : (s : List ℕ) → T (are_bytes s) → Bytes s
bytes_tested s t = record { byte = below s t }
  where
    below : (s : List ℕ) → T (are_bytes s) → (i : ℕ) → get_or s i 0 < 256
    below [] t i = omega arith
    below (n ∷ s) t zero = ltb→lt n 256 (left_of_lem (ltb n 256) (are_bytes s) t)
    below (n ∷ s) t (suc i) = below s (right_of_lem (ltb n 256) (are_bytes s) t) i

abbrev are_all_bytes : List (List ℕ) → Bool
are_all_bytes [] = true
are_all_bytes (s ∷ ss) = are_bytes s && are_all_bytes ss

all_tested : (ss : List (List ℕ)) → T (are_all_bytes ss) → AllBytes ss
all_tested [] t = no_bytes
all_tested (s ∷ ss) t = more_bytes (bytes_tested s (left_of_lem (are_bytes s) (are_all_bytes ss) t)) (all_tested ss (right_of_lem (are_bytes s) (are_all_bytes ss) t))

-- parts back to back
joined_bytes : {parts : List (List ℕ)} → AllBytes parts → Bytes (joined parts)
joined_bytes no_bytes = record { byte = λ i. omega arith }
joined_bytes (more_bytes {bytes = s} {parts = ss} b bs) = bytes_append s (joined ss) b (joined_bytes bs)

-- THE WALK

-- parts that are records have the size that the log rule asks for
records_sized : {parts : List (List ℕ)} → AllBytes parts → (rs : List Rec) → map parse parts ≡ map some rs → PartsSized parts
records_sized no_bytes rs e = no_part
records_sized (more_bytes b bs) [] e = absurd (omega (arith, ap (length {A = Option Rec}) e))
records_sized (more_bytes {bytes = s} {parts = ss} b bs) (r ∷ rs) e =
    let (v, is) = bytes_of_parse s r b (first e) in
    PartsSized.one_more (subst PartSized (sym is) (record_sized r v)) (records_sized bs rs (later e))
  where
    first : {x y : Option Rec} {xs ys : List (Option Rec)} → x ∷ xs ≡ y ∷ ys → x ≡ y
    first e = cc

    later : {x y : Option Rec} {xs ys : List (Option Rec)} → x ∷ xs ≡ y ∷ ys → xs ≡ ys
    later e = cc

-- THE LINES

-- the lines of a run are those of the rules' answers, counted from the first position on
run_lines : (S : State) (parts : List (List ℕ)) → S.p + length parts ≤ last_position → run S parts ≡ lines_from (S.p + 1) (verdicts S parts)
unfolding run
run_lines S [] h = refl
run_lines S (bytes ∷ parts) h =
    let e : (next S (parse bytes)).p ≡ S.p + 1 = next_p S (parse bytes) (omega arith) in
    let more = run_lines (next S (parse bytes)) parts (omega arith) ∙ ap (λ (v : ℕ). lines_from (v + 1) (verdicts (next S (parse bytes)) parts)) e in
    let x = melded_of S (parse bytes) in
    ap (λ (l : List Line). record { v = S.p + 1; answer = x.answer; looks = x.looks } ∷ l) more

-- EACH TABLE

-- a table that holds says what a card says over its log, cut and melded from `create` with N = 3 and Z = 4
rows_as_a_log : (rs : List Row) (keys : List ℕ) → T (are_all_bytes (map bytes_in rs)) → length (map bytes_in rs) ≤ last_position → Holds rs keys
    → (xs : List Melded) (last : Cut) (m : List ℕ) → Whole 3 4 (log_of rs) xs last m → TableRun rs keys xs last m
rows_as_a_log rs keys t few h xs last m k =
    let b = all_tested (map bytes_in rs) t in
    let f = pool_after_log 3 4 (log_of rs) xs last m (joined_bytes b) k in
    let (parts, ends) = walks_once f.walks (map bytes_in rs) End (joined_walks (records_sized b (map rec_of rs) h.read)) in
    record {
      lines = ap (lines_from 1) (f.answers ∙ ap (verdicts (fresh 3 4)) parts) ∙ sym (run_lines (fresh 3 4) (map bytes_in rs) (omega (arith, few))) ∙ h.melded;
      ends = ends;
      S = after (fresh 3 4) (map parse f.parts);
      means = f.means;
      kept_keys = ap (λ (l : List (List ℕ)). map key_in (after (fresh 3 4) (map parse l)).kept) parts ∙ h.kept_keys;
    }

-- R44: the eleven records; 10, 30 and 40 are kept
pub table_as_a_log : (xs : List Melded) (last : Cut) (m : List ℕ) → Whole 3 4 (log_of rows) xs last m → TableRun rows (10 ∷ 30 ∷ 40 ∷ []) xs last m
unfolding rows
table_as_a_log = rows_as_a_log rows (10 ∷ 30 ∷ 40 ∷ []) tt (omega arith) table.eleven

-- R55: the eight of deletes; 10, 30 and 40 are kept
pub deletes_as_a_log : (xs : List Melded) (last : Cut) (m : List ℕ) → Whole 3 4 (log_of delete_rows) xs last m → TableRun delete_rows (10 ∷ 30 ∷ 40 ∷ []) xs last m
unfolding delete_rows
deletes_as_a_log = rows_as_a_log delete_rows (10 ∷ 30 ∷ 40 ∷ []) tt (omega arith) table.deletes
