-- Each head is that of a bucket, and after them is none.
use Rattle.std.proofs.Common.{◌^◌, arith, inl, inr, ◌∙◌}
use Rattle.std.proofs.lemmas.Bool.{cases_lt}
use Rattle.std.proofs.lemmas.List.{get_or_past}
use Rattle.fish_image.proofs.Newest.{head_lower}
use Rattle.fish_image.proofs.law.checked_heads_are_older.Goals as goal

pub returns-clause-size : goal.returns-clause-size
returns-clause-size c k w checked h = h.heads.size

pub returns-clause-older : goal.returns-clause-older
returns-clause-older c k w checked h b some =
    elim (cases_lt b (2 ^ k.bucket_bits)) [
      | inl less ↦
          let is = h.heads.each b less in
          let lower = head_lower k w k.count h.end h.agrees b (λ none. some (is ∙ none)) in
          let line = h.lines in
          omega arith
      | inr more ↦
          let size = h.heads.size in
          absurd (some (get_or_past checked.heads b 0 (omega arith)))
    ]
