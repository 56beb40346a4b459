-- The eleven rows of R44, the eight of R55 and two records byte by byte hold, by computation through the record part's own bytes.
-- Assumes nothing.
use mathlib.Core.Path.{refl}
use Rattle.words.specs.Word.{word, big_endian}
use Rattle.record.specs.Record.{version_for}
use Rattle.record.specs.Parse.{parse, step_point, step_scan, parse_run, point_count, scan_count, first_point, counts_ok, head_ok}
use Rattle.rules.specs.Footprint.{reach, meets, writes_of}
use Rattle.rules.specs.Verdict.{hits, refusal_or, store, store_all, young, drops, apply, count, judge, verdict, next}
use Rattle.rules.specs.Log.{after}
use Rattle.rules.specs.Tree.{tree_of, newest, walk, looks_of}
use Rattle.rules.specs.Table.{Table, rows, delete_rows, run}

-- the table holds
pub table : Table
unfolding word big_endian version_for parse step_point step_scan parse_run point_count scan_count first_point counts_ok head_ok reach meets writes_of hits refusal_or store store_all young drops apply count judge verdict next after tree_of newest walk looks_of rows delete_rows run
table = record {
  eleven = record { written = refl; read = refl; melded = refl; kept_keys = refl };
  deletes = record { written = refl; read = refl; melded = refl; kept_keys = refl };
  first = refl;
  second = refl;
}
