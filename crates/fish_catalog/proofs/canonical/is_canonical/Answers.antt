-- What a text is read as decides.
use Rattle.std.proofs.Common.{◌≢◌, refl, List, ℕ, Err, subst}
use Rattle.std.proofs.lemmas.Result.{IfOk-weaker}
use Rattle.fish_lang.specs.Definition.{definition_of}
use Rattle.fish_lang.specs.Language.{IsAccepted, IsOutcome, UnlessMemory}
use Rattle.fish_lang.specs.declared.parse.LangRefusal.{LangRefusal}
use Rattle.fish_lang.specs.declared.parse.LangRefusal.TheVariants as refusal
use Rattle.fish_catalog.specs.Canonical.{IsCanonical}
use Rattle.fish_catalog.proofs.Texts.{canonical_read, canonical_written, read_once, written_canonical}
use Rattle.fish_catalog.proofs.canonical.is_canonical.Goals as goal

pub returns-in-Ok : goal.returns-in-Ok
returns-in-Ok c =
    let read = subst (λ (b : List ℕ). IsAccepted b (definition_of c.in-Ok.def)) c.as_bytes.ensures.value c.in-Ok.ensures.answer in
    IfOk-weaker c.is_written.result _ _ (λ same h. (
      (λ yes. written_canonical c.args.text.now _ read (h.0 yes)),
      λ canonical. h.1 (canonical_written c.args.text.now _ read canonical),
    )) c.is_written.ensures

-- a text with a refusal of its own is not canonical
not_canonical : (text : List ℕ) (e : LangRefusal) → UnlessMemory definition_of (Err e) (IsOutcome text) → e ≢ refusal.OutOfMemory
    → IsCanonical text → ⊥
not_canonical text refusal.OutOfMemory due not h = not refl
not_canonical text (refusal.Unexpected at) due not h = absurd (cc (read_once text _ _ due (canonical_read text h)))
not_canonical text (refusal.TooDeep at) due not h = absurd (cc (read_once text _ _ due (canonical_read text h)))
not_canonical text (refusal.TooLong at) due not h = absurd (cc (read_once text _ _ due (canonical_read text h)))
not_canonical text (refusal.NumberTooLarge at) due not h = absurd (cc (read_once text _ _ due (canonical_read text h)))
not_canonical text (refusal.ZeroWidth at) due not h = absurd (cc (read_once text _ _ due (canonical_read text h)))

pub returns-in-Err : goal.returns-in-Err
returns-in-Err c =
    let due = subst (λ (b : List ℕ). UnlessMemory definition_of (Err c.in-Err.refusal) (IsOutcome b)) c.as_bytes.ensures.value
    c.in-Err.ensures.answer in
    IfOk-weaker c.refused.result _ _ (λ canonical h. (
      (λ yes. absurd (cc (h.0, yes))),
      λ canon. absurd (not_canonical c.args.text.now c.in-Err.refusal due h.1 canon),
    )) c.refused.ensures
