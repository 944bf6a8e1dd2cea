-- The canonical text of a definition is lexed to the tokens of its canonical derivation.
use Rattle.std.proofs.Common.{◌≡◌, ℕ, List, [], ◌∷◌, ◌++◌, refl, ◌∙◌, ap, append_assoc, append-nil}
use Rattle.std.specs.Prelude.{false, Option, Some, None, codes}
use Rattle.fish_lang.specs.Canonical.{path_text, formula_text, when_text, definition_text}
use Rattle.fish_lang.specs.Definition.{Formula, Definition, takes, eaches, buckets, flags}
use Rattle.fish_lang.specs.Grammar.{Terminal, spelled, terminals, path_terminals, cond_terminals, when_terminals}
use Rattle.fish_lang.specs.Derivation.{Cond, Derivation, take_def, each_def, bucket_def, flag_def}
use Rattle.std.specs.Fmt.{signed_decimal}
use Rattle.fish_lang.specs.declared.print.Part.TheVariants.{Whole}
use Rattle.fish_lang.specs.declared.token.Keyword.TheVariants as word
use Rattle.fish_lang.specs.declared.token.Token.TheVariants as kind
use Rattle.fish_lang.proofs.Depths.{path_of, cond_of}
use Rattle.fish_lang.proofs.Lexed.{lexed-take, lexed-each, lexed-bucket, lexed-flag, lexed-when, lexed-by}
use Rattle.fish_lang.proofs.Numerals.{lexed-int}
use Rattle.fish_lang.proofs.Ways.{spelled-append}
use Rattle.fish_lang.proofs.Words.{lexed, lexed-none, lexed-blank, EndsWord}
use Rattle.fish_lang.proofs.Conditions.{path-lexed, LexesTo, condition-lexed}
use Rattle.fish_lang.proofs.Writable.{IsWhen, IsWritable}

-- its canonical derivation
abbrev pub when_of : Option Formula → Option Cond
when_of None = None
when_of (Some a) = Some (cond_of a)

abbrev pub derivation_of : Definition → Derivation
derivation_of (takes p w) = take_def (path_of p) (when_of w)
derivation_of (eaches p w) = each_def (path_of p) (when_of w)
derivation_of (buckets p n w) = bucket_def (path_of p) (Some n) (when_of w)
derivation_of (flags a) = flag_def (cond_of a)

when-ends : (w : Option Formula) → EndsWord (when_text w ++ [])
when-ends None = tt
when-ends (Some a) = refl

-- at the end of the text
at-end : (text : List ℕ) (xs : List Terminal) → LexesTo text xs → lexed (text ++ []) ≡ spelled xs
at-end text xs h = h [] tt ∙ rw lexed-none (append-nil (spelled xs))

when-lexed : (w : Option Formula) → IsWhen w → lexed (when_text w ++ []) ≡ spelled (when_terminals (when_of w))
when-lexed None h = lexed-none
when-lexed (Some a) h =
    lexed-blank (codes "when " ++ (formula_text Whole a ++ []))
    ∙ lexed-when (formula_text Whole a ++ []) ∙ ap (λ ts. kind.Keyword word.When ∷ ts)
    (at-end (formula_text Whole a) (cond_terminals 0 (cond_of a)) (condition-lexed Whole a 0 h))

definition-lexed-nil : (d : Definition) → IsWritable d → lexed (definition_text d ++ [])
    ≡ spelled (terminals (derivation_of d))
definition-lexed-nil (takes p w) h =
    simp (append_assoc, spelled-append)
    (lexed-take (path_text p ++ (when_text w ++ [])) ∙ ap (λ ts. kind.Keyword word.Take ∷ ts)
    (path-lexed p (when_text w ++ []) h.0 (when-ends w)
    ∙ ap (λ ts. spelled (path_terminals (path_of p)) ++ ts) (when-lexed w h.1)))
definition-lexed-nil (eaches p w) h =
    simp (append_assoc, spelled-append)
    (lexed-each (path_text p ++ (when_text w ++ [])) ∙ ap (λ ts. kind.Keyword word.Each ∷ ts)
    (path-lexed p (when_text w ++ []) h.0 (when-ends w)
    ∙ ap (λ ts. spelled (path_terminals (path_of p)) ++ ts) (when-lexed w h.1)))
definition-lexed-nil (buckets p n w) h =
    simp (append_assoc, spelled-append)
    (lexed-bucket (path_text p ++ (codes " by " ++ (signed_decimal n ++ (when_text w ++ []))))
    ∙ ap (λ ts. kind.Keyword word.Bucket ∷ ts)
    (path-lexed p (codes " by " ++ (signed_decimal n ++ (when_text w ++ []))) h.0 refl
    ∙ ap (λ ts. spelled (path_terminals (path_of p)) ++ ts)
    (lexed-by (signed_decimal n ++ (when_text w ++ []))
    ∙ ap (λ ts. kind.Keyword word.By ∷ ts) (lexed-int n (when_text w ++ []) h.1 (when-ends w)
    ∙ rw h.2 (ap (λ ts. kind.Number false (Some n) ∷ ts) (when-lexed w h.3))))))
definition-lexed-nil (flags a) h =
    simp append_assoc
    (lexed-flag (codes "when " ++ (formula_text Whole a ++ []))
    ∙ ap (λ ts. kind.Keyword word.Flag ∷ ts) (lexed-when (formula_text Whole a ++ [])
    ∙ ap (λ ts. kind.Keyword word.When ∷ ts)
    (at-end (formula_text Whole a) (cond_terminals 0 (cond_of a)) (condition-lexed Whole a 0 h))))

-- the tokens of the canonical text
pub definition-lexed : (d : Definition) → IsWritable d → lexed (definition_text d)
    ≡ spelled (terminals (derivation_of d))
definition-lexed d h = rw append-nil at (definition-lexed-nil d h)
