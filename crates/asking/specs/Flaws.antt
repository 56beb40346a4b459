-- What is wrong with a record's bytes, for the words of answer 4 (R52).
-- Assumes nothing: these are definitions.
use Rattle.std.specs.Prelude.{◌≡◌, ℕ, List, Option, None, IsSome, ◌≢◌}
use Rattle.record.specs.Answer.{committed}
use Rattle.record.specs.Parse.{parse, check_of}
use Rattle.asking.specs.declared.flaws.Flaw.{Flaw}

-- R52: nothing is wrong with a well-formed record, and something with any other bytes (R9)
pub record FlawIs (bytes : List ℕ) (r : Option Flaw) : Type 0 where
  pub well_formed : check_of (parse bytes) ≡ committed → r ≡ None
  pub malformed_is : (check_of (parse bytes) ≢ committed) → IsSome r
