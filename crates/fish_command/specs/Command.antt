-- What the words of a command line ask for, or why they are no command.
use Rattle.std.specs.Prelude.{◌≡◌, ℕ, ◌⊎◌, List, Bool, Option, Some, None, Result, Ok, Err, ⊤}
use Rattle.fish_value.specs.ValueText.{value_text}
use Rattle.fish_value.specs.declared.field.Form.{Form}
use Rattle.fish_value.specs.declared.value.Value.{Value}
use Rattle.fish_lang.specs.Definition.{Definition, definition_of}
use Rattle.fish_lang.specs.Language.{IsOutcome}
use Rattle.fish_lang.specs.declared.parse.LangRefusal.{LangRefusal}
use Rattle.fish_lang.specs.declared.parse.LangRefusal.TheVariants as lang
use Rattle.fish_command.specs.Options.{Word}
use Rattle.fish_command.specs.Request as request
use Rattle.fish_command.specs.declared.command.Command.{Command}
use Rattle.fish_command.specs.declared.command.Command.TheVariants as command
use Rattle.fish_command.specs.declared.options.Layout.{Layout}
use Rattle.fish_command.specs.declared.refusal.UsageCause.{UsageCause}
use Rattle.fish_command.specs.declared.refusal.UsageCause.TheVariants as cause
use Rattle.fish_command.specs.declared.refusal.CommandRefusal.{CommandRefusal}
use Rattle.fish_command.specs.declared.refusal.CommandRefusal.TheVariants as refusal

-- what a command asks for
pub data Asked : Type 0 where
  select : (def : Definition) (value : Value) (form : Form) (header : Bool) (file : Word) → Asked
  run : (store script : Word) (pages bits : Option ℕ) → Asked
  sample : (number : ℕ) → Asked

-- what a command that was read asks for
abbrev pub asked_of : Command → Asked
asked_of (command.Select s) = select (definition_of s.def) s.value s.form s.header s.file
asked_of (command.Run r) = run r.store r.script r.pages r.bits
asked_of (command.Sample s) = sample s.number

-- a definition and a file, with a value where there is one
abbrev pub asked_with_value : Definition → Layout → Word → Option Value → Result Asked UsageCause
asked_with_value def layout file None = Err cause.Value
asked_with_value def layout file (Some v) = Ok (select def v layout.form layout.header file)

-- what the language says of the definition, and then the value
abbrev pub with_definition : Result Definition LangRefusal → Layout → Word → Word → Result Asked UsageCause
with_definition (Err refusal) layout value file = Err (cause.Definition refusal)
with_definition (Ok def) layout value file = asked_with_value def layout file (value_text value)

-- these parts of `select` are this command, or refused with this cause
pub record IsSelectCommand (def value file : Word) (layout : Layout) (r : Result Asked UsageCause) : Type 0 where
  pub due : Result Definition LangRefusal
  pub said : IsOutcome def due
  pub is : r ≡ with_definition due layout value file

-- these parts are this command, or refused with this cause
abbrev pub IsRequested : request.Request → Result Asked UsageCause → Type 0
IsRequested (request.select def value file layout) r = IsSelectCommand def value file layout r
IsRequested (request.run store script pages bits) r = r ≡ Ok (run store script pages bits)
IsRequested (request.sample number) r = r ≡ Ok (sample number)

-- words on the grammar are this command, or refused with this cause
pub record IsCommandRead (words : List Word) (r : Result Asked UsageCause) : Type 0 where
  pub parts : request.Request
  pub fits : request.IsRequest words parts
  pub asks : IsRequested parts r

-- words off the grammar
abbrev pub IsOffGrammar : List Word → Type 0
IsOffGrammar words = (parts : request.Request) → ¬ request.IsRequest words parts

-- words are this command, or refused with this cause
abbrev pub IsCommand : List Word → Result Asked UsageCause → Type 0
IsCommand words r = IsCommandRead words r ⊎ (IsOffGrammar words × (r ≡ Err cause.Words))

-- the words are some command
abbrev pub IsSomeCommand : List Word → Type 0
IsSomeCommand words = (asked : Asked) × IsCommand words (Ok asked)

-- a refusal names the cause, unless memory ran out
abbrev pub IsCommandRefused : (Result Asked UsageCause → Type 0) → CommandRefusal → Type 0
IsCommandRefused Is (refusal.Usage cause) = Is (Err cause)
IsCommandRefused Is refusal.OutOfMemory = ⊤

-- a refusal to read words
abbrev pub IsRefusedCommand : List Word → CommandRefusal → Type 0
IsRefusedCommand words = IsCommandRefused (IsCommand words)

-- a refusal of a definition as a refusal of words
abbrev pub definition_refusal : LangRefusal → CommandRefusal
definition_refusal (lang.Unexpected at) = refusal.Usage (cause.Definition (lang.Unexpected at))
definition_refusal (lang.TooDeep at) = refusal.Usage (cause.Definition (lang.TooDeep at))
definition_refusal (lang.TooLong n) = refusal.Usage (cause.Definition (lang.TooLong n))
definition_refusal (lang.NumberTooLarge at) = refusal.Usage (cause.Definition (lang.NumberTooLarge at))
definition_refusal (lang.ZeroWidth at) = refusal.Usage (cause.Definition (lang.ZeroWidth at))
definition_refusal lang.OutOfMemory = refusal.OutOfMemory
