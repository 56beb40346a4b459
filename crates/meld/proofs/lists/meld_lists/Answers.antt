-- `meld::meld_lists` meets its promise: one law for each return and each call (Verdicts.antt).
use Rattle.std.proofs.lemmas.Grind.{merely}
use Rattle.meld.proofs.Verdicts.{is_fit, are_sorted, refusal_melds, asks_lean, asks_writes, no_room_lem, lean_melds, whole_melds}
use borrow.Author.Rules.{rules}
use Rattle.meld.proofs.lists.meld_lists.Goals as goal

pub judge-looks-requires : goal.judge-looks-requires
judge-looks-requires c = is_fit c.requires

pub invariant_of-judge : goal.invariant_of-judge
invariant_of-judge c = record { sorted = merely (are_sorted c.requires) }

pub returns-then-ne : goal.returns-then-ne
returns-then-ne c = refusal_melds c.requires _ c.judge-looks.ensures _ (search rules) c.advance.ensures

pub commit_after_drop-requires : goal.commit_after_drop-requires
commit_after_drop-requires c = asks_lean c.requires _ c.judge-looks.ensures (search rules) _ c.room_for.ensures.room_is _ c.room_for.ensures.settles c.in-AfterDrop.is

pub commit_writes-requires : goal.commit_writes-requires
commit_writes-requires c = asks_writes c.requires _ c.judge-looks.ensures (search rules) _ c.room_for.ensures.room_is _ c.room_for.ensures.settles c.in-Enough.is

pub returns-in-TooLittle : goal.returns-in-TooLittle
returns-in-TooLittle c = no_room_lem c.requires _ c.judge-looks.ensures (search rules) _ c.room_for.ensures.room_is _ c.room_for.ensures.settles _ _ c.in-TooLittle.is c.advance-in-TooLittle.ensures

pub returns-in-AfterDrop : goal.returns-in-AfterDrop
returns-in-AfterDrop c = lean_melds c.requires _ c.judge-looks.ensures (search rules) _ c.room_for.ensures.room_is _ c.room_for.ensures.settles _ c.in-AfterDrop.is c.commit_after_drop.ensures

pub returns-in-Enough : goal.returns-in-Enough
returns-in-Enough c = whole_melds c.requires _ c.judge-looks.ensures (search rules) _ c.room_for.ensures.room_is _ c.room_for.ensures.settles _ c.in-Enough.is c.commit_writes.ensures
