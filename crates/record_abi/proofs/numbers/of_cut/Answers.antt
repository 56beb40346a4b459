-- `record_abi::numbers::of_cut` meets its promise, by cases on what was found.
use Rattle.record_abi.proofs.Carried.{known_cut}
use Rattle.record_abi.proofs.numbers.of_cut.Goals as goal

pub returns-in-End : goal.returns-in-End
returns-in-End c = known_cut _ _ _ c.in-End.is

pub returns-in-Torn : goal.returns-in-Torn
returns-in-Torn c = known_cut _ _ _ c.in-Torn.is

pub returns-in-Impossible : goal.returns-in-Impossible
returns-in-Impossible c = known_cut _ _ _ c.in-Impossible.is

pub returns-in-Record : goal.returns-in-Record
returns-in-Record c = known_cut _ _ _ c.in-Record.is
