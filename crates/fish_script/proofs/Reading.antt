-- A text while its lines are read.
use Rattle.std.proofs.Common.{◌≡◌, ℕ, suc, ◌+◌, ◌≤◌, List, [], ◌∷◌, ◌++◌, inr, refl, sym, ap, subst, ◌∙◌, arith}
use Rattle.std.proofs.Common.{length, append_assoc, length-append}
use Rattle.std.specs.Prelude.{Result, Ok, Err, IfErr, OnOk}
use Rattle.std.proofs.lemmas.List.{append-nil}
use Rattle.fish_script.proofs.Parts.{lines_none}
use Rattle.fish_script.specs.within.Building.{IsInside, IsSoFar, IsScriptWritten, TakesScriptLine}
use Rattle.fish_script.specs.Limits.{longest_script}
use Rattle.fish_script.specs.Lines.{script_lines}
use Rattle.fish_script.specs.Refusals.{AllSay, IsRefusal, IsScript, Says}
use Rattle.fish_script.specs.declared.builder.ScriptBuilder.{ScriptBuilder}
use Rattle.fish_script.specs.declared.builder.Position.{Position}
use Rattle.fish_script.specs.declared.builder.Position.TheVariants.{Outside, Inside}
use Rattle.fish_script.specs.declared.refusal.ScriptRefusal.{ScriptRefusal}
use Rattle.fish_script.specs.declared.refusal.ScriptRefusal.TheVariants as refusal
use Rattle.fish_script.specs.declared.script_line.ScriptLine.{ScriptLine}

-- one line more
say_push : (bs : List (List ℕ)) (ws own : List ScriptLine) (b : List ℕ) → AllSay bs ws → Says b own → AllSay (bs ++ b ∷ []) (ws ++ own)
say_push [] ws own b h here = (own, [], here, refl, ap (λ (z : List ScriptLine). z ++ own) h ∙ sym (append-nil own))
say_push (a ∷ bs) ws own b h here = (
  h.0,
  h.1 ++ own,
  h.2,
  say_push bs h.1 own b h.3 here,
  ap (λ (z : List ScriptLine). z ++ own) h.4 ∙ append_assoc h.0 h.1 own,
)

-- one line more is read
pub more_read : (text rest line behind : List ℕ) (number : ℕ) (old new : ScriptBuilder) → IsSoFar text rest number old
    → script_lines rest ≡ line ∷ script_lines behind → TakesScriptLine line old new → IsSoFar text behind (number + 1) new
more_read text rest line behind number old new h split takes =
    let t = takes h.ws h.builder in
    record {
      before = h.before ++ line ∷ [];
      splits = h.splits ∙ ap (λ (z : List (List ℕ)). h.before ++ z) split ∙ sym (append_assoc h.before (line ∷ []) (script_lines behind));
      count = omega (arith, length-append h.before (line ∷ []), h.count);
      ws = h.ws ++ t.0;
      say = say_push h.before h.ws t.0 line h.say t.1;
      builder = t.2;
    }

-- all is read
all_lines : (text rest : List ℕ) (number : ℕ) (d : ScriptBuilder) (h : IsSoFar text rest number d) → length rest ≡ 0
    → script_lines text ≡ h.before
all_lines text [] number d h none =
    h.splits ∙ ap (λ (z : List (List ℕ)). h.before ++ z) lines_none ∙ append-nil h.before
all_lines text (c ∷ rest) number d h none = absurd (omega arith)

-- the text is a script where it ends outside of a block
pub script_read : (text rest : List ℕ) (number : ℕ) (d : ScriptBuilder) → length text ≤ longest_script → IsSoFar text rest number d
    → length rest ≡ 0 → d.position ≡ Outside → IsScript text d.blocks
script_read text rest number d size h none outside = record {
  size = size;
  ws = h.ws;
  say = subst (λ (z : List (List ℕ)). AllSay z h.ws) (sym (all_lines text rest number d h none)) h.say;
  blocks = (subst (λ (p : Position). IsScriptWritten h.ws p d.blocks d.lanes d.lane) outside h.builder.written).0;
}

-- and else refused
pub end_refused : (text rest : List ℕ) (number : ℕ) (d : ScriptBuilder) → length text ≤ longest_script → IsSoFar text rest number d
    → length rest ≡ 0 → IsInside d.position → IsRefusal text (refusal.Unexpected (number + 1))
end_refused text rest number d size h none inside = at d.position refl
  where
    at : (p : Position) → d.position ≡ p → IsRefusal text (refusal.Unexpected (number + 1))
    at Outside is = absurd (subst (λ (p : Position). IsInside p) is inside)
    at (Inside lanes feeds) is = (
      size,
      inr (record {
        ws = h.ws;
        say = subst (λ (z : List (List ℕ)). AllSay z h.ws) (sym (all_lines text rest number d h none)) h.say;
        stand = h.builder.stand;
        lanes = lanes;
        feeds = feeds;
        within = h.builder.position ∙ is;
        fault =
            let count : number + 1 ≡ suc (length (script_lines text)) =
            omega (arith, h.count, ap (λ (z : List (List ℕ)). length z) (all_lines text rest number d h none)) in
            ap (λ (n : ℕ). refusal.Unexpected n) count;
      }),
    )

-- what the end of the text answers: a script
pub end_script : {T : Type 0} (r : Result T ScriptRefusal) (text rest : List ℕ) (number : ℕ) (d : ScriptBuilder)
    → length text ≤ longest_script → IsSoFar text rest number d → length rest ≡ 0 → OnOk r (d.position ≡ Outside)
    → OnOk r (IsScript text d.blocks)
end_script (Ok x) text rest number d size h none outside = script_read text rest number d size h none outside
end_script (Err e) text rest number d size h none outside = tt

-- or a refusal
pub end_refusal : {T : Type 0} (r : Result T ScriptRefusal) (text rest : List ℕ) (number : ℕ) (d : ScriptBuilder)
    → length text ≤ longest_script → IsSoFar text rest number d → length rest ≡ 0
    → IfErr r (λ e. IsInside d.position × (e ≡ refusal.Unexpected (number + 1))) → IfErr r (IsRefusal text)
end_refusal (Ok x) text rest number d size h none inside = tt
end_refusal (Err e) text rest number d size h none inside =
    subst (λ (z : ScriptRefusal). IsRefusal text z) (sym inside.1) (end_refused text rest number d size h none inside.0)
