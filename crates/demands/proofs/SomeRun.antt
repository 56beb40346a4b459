-- Any log can be melded whole: from a pool that creation has answered 0 for, with any meld that keeps its promise. So no theorem on whole
-- runs, `table_as_a_log` among them, holds for want of a run.
-- The idea: the log's walk (`walked`) says where to cut next; the pool stays fit, so the meld can be called again.
-- Assumes nothing.
use Prim.Native.Nat.{ℕ, ◌-◌}
use mathlib.Core.Path.{subst}
use mathlib.Core.List.{List, [], ◌∷◌}
use lib.ListN.{drop}
use Rattle.words.specs.Word.{Bytes}
use Rattle.words.specs.Laws.{bytes_drop, bytes_take}
use Rattle.record.specs.Answer.{committed}
use Rattle.record_log.specs.declared.found.Cut.{Cut}
use Rattle.record_log.specs.declared.found.Cut.TheVariants.{Record}
use Rattle.record_log.specs.Log.{part_of, CutIs}
use Rattle.record_log.specs.Walk.{Walks, ends, tears, cannot_be, hands}
use Rattle.record_log.proofs.Walk.{walked}
use Rattle.pool.specs.Image.{Fit}
use Rattle.create.specs.Fresh.{Created}
use Rattle.meld.specs.declared.melding.Melded.{Melded}
use Rattle.demands.specs.Runs.{ReadingOn, so_far, is_over}
use Rattle.demands.specs.Calls.{Call, none_more}
use Rattle.demands.specs.SomeRun.{SomeMeld, SomeWhole}
use Rattle.demands.proofs.Reading.{cut_is, read_first}
use Rattle.demands.proofs.Calls.{call_stays_fit, stays_fit}

-- from a place and a pool on, up to where no record is found
record SomeReading (log : List ℕ) (place : ℕ) (m : List ℕ) (last : Cut) : Type 0 where
  answers : List Melded
  stop : ℕ
  after : List ℕ
  reading : ReadingOn log place m answers stop after
  found : CutIs log stop last
  over : is_over last

some_reading : SomeMeld → {log : List ℕ} {place : ℕ} {parts : List (List ℕ)} {last : Cut} → Bytes log → Walks log place parts last
    → (m : List ℕ) → Fit m → SomeReading log place m last
some_reading meld {log = log} {place = place} b (ends e) m f =
    record { answers = []; stop = place; after = m; reading = so_far; found = subst (CutIs log place) e (cut_is log place); over = tt }
some_reading meld {log = log} {place = place} b (tears e) m f =
    record { answers = []; stop = place; after = m; reading = so_far; found = subst (CutIs log place) e (cut_is log place); over = tt }
some_reading meld {log = log} {place = place} b (cannot_be e) m f =
    record { answers = []; stop = place; after = m; reading = so_far; found = subst (CutIs log place) e (cut_is log place); over = tt }
some_reading meld {log = log} {place = place} b (hands {next = next} e w) m f =
    let bytes : List ℕ = part_of (Record next) log place in
    let are : Bytes bytes = bytes_take (next - place) (drop place log) (bytes_drop place log b) in
    let (x, m', h) = meld m bytes f.image.bytes are in
    let rest = some_reading meld b w m' (call_stays_fit (Call.meld bytes x are h) f) in
    record {
      answers = x ∷ rest.answers;
      stop = rest.stop;
      after = rest.after;
      reading = read_first e h rest.reading;
      found = rest.found;
      over = rest.over;
    }

-- every log of bytes has a whole run
pub some_run : (N Z : ℕ) (log lent new : List ℕ) → Bytes log → Created lent N Z committed new → SomeMeld → SomeWhole N Z log
some_run N Z log lent new b c meld =
    let w = walked log 0 in
    let r = some_reading meld b w.walks new (stays_fit lent N Z new new c none_more) in
    record {
      answers = r.answers;
      last = w.last;
      m = r.after;
      run = record { place = r.stop; card = record { lent = lent; new = new; created = c; read = r.reading }; found = r.found; over = r.over };
    }
