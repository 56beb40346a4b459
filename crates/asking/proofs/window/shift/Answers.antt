-- `asking::shift` meets its contract: what `copy_within` has written is what was held behind the first bytes.
-- Assumes nothing.
use Rattle.std.proofs.Common.{ℕ, ◌-◌, ◌∙◌, List, take, drop, sym, refl, ap, arith, zero-add, length-drop}
use Rattle.std.specs.List.{copy_within}
use Rattle.std.proofs.lemmas.List.{drop-take}
use Rattle.std.proofs.lemmas.List.Edits.{take-paste}
use Rattle.asking.proofs.window.shift.Goals as goal

pub returns : goal.returns
returns c =
    let window : List ℕ = c.args.window.now in
    let past : ℕ = c.args.past in
    let left : ℕ = c.args.held - c.args.past in
    record {
      moved =
          ap (take left) c.copy_within.ensures.after
          ∙ ap (λ (n : ℕ). take left (copy_within window past n 0)) (omega arith)
          ∙ ap (λ (n : ℕ). take n (copy_within window past c.args.held 0)) (sym (zero-add left))
          ∙ take-paste window 0 (drop past window) left (omega arith) (omega (arith, length-drop past window))
          ∙ sym (drop-take past left window)
          ∙ ap (λ (n : ℕ). drop past (take n window)) (omega arith);
      as_long = c.copy_within.ensures.len;
      left_is = refl;
    }
