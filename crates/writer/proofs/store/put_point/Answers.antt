-- `put_point` meets its contract: its stores are one run, with the payload for a put and without it for others.
-- Assumes nothing.
use Rattle.writer.proofs.StoreLaws.{other_size, put_size, point_first, point_key, point_payload, point_stored_other, point_stored_put}
use borrow.Author.Rules.{rules}
use Rattle.writer.proofs.store.put_point.Goals as goal

pub bounds-output-at : goal.bounds-output-at
bounds-output-at c = search (point_first, rules)

pub put4-requires : goal.put4-requires
put4-requires c = search (point_key, rules)

pub returns-then-kind-ne-PUT : goal.returns-then-kind-ne-PUT
returns-then-kind-ne-PUT c = record { value = search (other_size, c.if-kind-ne-PUT.true, rules); output_after = search (point_stored_other, c.if-kind-ne-PUT.true, rules) }

pub put8-requires : goal.put8-requires
put8-requires c = search (point_payload, rules)

pub returns : goal.returns
returns c = record { value = search (put_size, rules); output_after = search (point_stored_put, rules) }
