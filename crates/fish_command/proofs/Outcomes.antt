-- Words have one outcome.
use Rattle.std.proofs.Common.{◌≡◌, List, refl, sym, ◌∙◌, inl, inr, ap, subst}
use Rattle.std.specs.Prelude.{Option, Some, None, Result, Ok, Err, option_map}
use Rattle.fish_lang.specs.Definition.{Definition}
use Rattle.fish_lang.specs.within.Outcome.{outcome}
use Rattle.fish_lang.specs.declared.parse.LangRefusal.{LangRefusal}
use Rattle.fish_lang.proofs.Outcomes.{outcome-is, outcome-only}
use Rattle.fish_command.specs.Laws.{OneOutcome, OneReading, SomeOutcome}
use Rattle.fish_command.specs.within.Parts.{request_of_parts}
use Rattle.fish_command.specs.Options.{Word}
use Rattle.fish_command.specs.within.Reading.{request_of}
use Rattle.fish_command.specs.Request.{IsRequest, Request}
use Rattle.fish_command.specs.Request as request
use Rattle.fish_command.specs.Command.{Asked, IsRequested, IsCommand, IsCommandRefused, IsRefusedCommand, run, sample, with_definition}
use Rattle.fish_command.specs.declared.refusal.UsageCause.{UsageCause}
use Rattle.fish_command.specs.declared.refusal.UsageCause.TheVariants as cause
use Rattle.fish_command.specs.declared.refusal.CommandRefusal.{CommandRefusal}
use Rattle.fish_command.specs.declared.refusal.CommandRefusal.TheVariants as refusal
use Rattle.fish_command.specs.declared.request.CommandParts.{CommandParts}
use Rattle.fish_command.proofs.Readings.{request_is, request_reads}

-- what the parts that are read ask for, the words do
pub IsCommand-read : (words : List Word) (q : Request) (r : Result Asked UsageCause) → request_of words ≡ Some q
    → IsRequested q r → IsCommand words r
IsCommand-read words q r e asks = inl (record { parts = q; fits = request_is words q e; asks = asks })

-- words in which nothing is read are off the grammar
pub IsCommand-none : (words : List Word) → request_of words ≡ None → IsCommand words (Err cause.Words)
IsCommand-none words e =
    inr ((λ q fits. let bad = request_reads words q fits in cc), refl)

-- parts ask for something
asked_some : (q : Request) → (r : Result Asked UsageCause) × IsRequested q r
asked_some (request.select def value file layout) = (
  with_definition (outcome def) layout value file,
  record { due = outcome def; said = outcome-is def; is = refl },
)
asked_some (request.run store script pages bits) = (Ok (run store script pages bits), refl)
asked_some (request.sample number) = (Ok (sample number), refl)

-- and for one thing alone
asked_one : (q : Request) (r s : Result Asked UsageCause) → IsRequested q r → IsRequested q s → r ≡ s
asked_one (request.select def value file layout) r s a b =
    let same : a.due ≡ b.due = sym (outcome-only def a.due a.said) ∙ outcome-only def b.due b.said in
    a.is ∙ ap (λ (due : Result Definition LangRefusal). with_definition due layout value file) same ∙ sym b.is
asked_one (request.run store script pages bits) r s a b = a ∙ sym b
asked_one (request.sample number) r s a b = a ∙ sym b

-- words have an outcome, whatever is read in them
some_by : (words : List Word) (o : Option Request) → request_of words ≡ o
    → (r : Result Asked UsageCause) × IsCommand words r
some_by words None e = (Err cause.Words, IsCommand-none words e)
some_by words (Some q) e = ((asked_some q).0, IsCommand-read words q ((asked_some q).0) e ((asked_some q).1))

-- words have an outcome
pub some_outcome : SomeOutcome
some_outcome words = some_by words (request_of words) refl

-- words have one reading
pub one_reading : OneReading
one_reading words p q a b =
    let first = request_reads words p a in
    let second = request_reads words q b in
    cc

-- words have one outcome
pub one_outcome : OneOutcome
one_outcome words r s (inl a) (inl b) =
    let same = one_reading words a.parts b.parts a.fits b.fits in
    asked_one b.parts r s (subst (λ (q : Request). IsRequested q r) same a.asks) b.asks
one_outcome words r s (inl a) (inr b) = absurd (b.0 a.parts a.fits)
one_outcome words r s (inr a) (inl b) = absurd (a.0 b.parts b.fits)
one_outcome words r s (inr a) (inr b) = a.1 ∙ sym b.1

-- what the parts that are read are refused for, the words are
pub IsCommandRefused-read : (words : List Word) (q : Request) (e : CommandRefusal) → request_of words ≡ Some q
    → IsCommandRefused (IsRequested q) e → IsRefusedCommand words e
IsCommandRefused-read words q (refusal.Usage cause) e refused = IsCommand-read words q (Err cause) e refused
IsCommandRefused-read words q refusal.OutOfMemory e refused = refused

-- the parts that are borrowed are those that are read
pub request_of-parts : (words : List Word) (r : Option CommandParts) (l : CommandParts) → option_map request_of_parts r ≡ request_of words
    → r ≡ Some l → request_of words ≡ Some (request_of_parts l)
request_of-parts words r l e is = sym e ∙ ap (option_map request_of_parts) is
