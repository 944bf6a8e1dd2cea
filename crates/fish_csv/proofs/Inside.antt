-- What one step of the default machine leaves: a row ends at a line end alone, and one that has begun stays so until it ends.
use Rattle.std.specs.Prelude.{◌||◌, if◌then◌else◌}
use Rattle.std.proofs.Common.{◌≡◌, ◌==◌, ℕ, Bool, true, false, refl, inl, inr}
use Rattle.csv.specs.Machine.{ends_at_end, is_end, step}
use Rattle.csv.specs.Reading.{default_config}
use Rattle.csv.specs.declared.parser.Action.{Action}
use Rattle.csv.specs.declared.parser.Action.TheVariants as act
use Rattle.csv.specs.declared.parser.State.{State}
use Rattle.csv.specs.declared.parser.State.TheVariants as st
use Rattle.fish_csv.specs.within.Machine.{IsBetweenRows}

-- a row has begun, and has not ended
abbrev pub is_inside : State → Bool
is_inside st.StartRecord = false
is_inside st.AfterCr = false
is_inside st.InComment = false
is_inside st.InEscape = false
is_inside st.StartField = true
is_inside st.InField = true
is_inside st.InQuoted = true
is_inside st.AfterQuote = true

-- a step that ends a row leaves the machine between rows, and one that ends none at a row that has begun leaves it in the row
abbrev pub Leaves : State × Action → Type 0
Leaves x = (is_end x.1 ≡ true → IsBetweenRows x.0) × (is_end x.1 ≡ false → is_inside x.0 ≡ true)

-- what a step leaves outside quotes, by what the byte is: a comma, CR, LF
abbrev pub after-plain : Bool → Bool → Bool → State × Action
after-plain a r n = if a then (st.StartField, act.EndField) else if r || n then
    (if r then st.AfterCr else st.StartRecord, act.EndRecord) else (st.InField, act.Copy)

plain-leaves : (a r n : Bool) → Leaves (after-plain a r n)
plain-leaves true r n = (λ e. cc e, λ e. refl)
plain-leaves false true n = (λ e. inr refl, λ e. cc e)
plain-leaves false false true = (λ e. inl refl, λ e. cc e)
plain-leaves false false false = (λ e. cc e, λ e. refl)

field-leaves : (act_of : Action) (q a r n : Bool) → is_end act_of ≡ false → Leaves (if q then (st.InQuoted, act_of) else after-plain a r n)
field-leaves act_of true a r n h = (λ e. cc, λ e. refl)
field-leaves act_of false a r n h = plain-leaves a r n

quoted-leaves : (q : Bool) → Leaves (if q then (st.AfterQuote, act.Skip) else (st.InQuoted, act.Copy))
quoted-leaves true = (λ e. cc e, λ e. refl)
quoted-leaves false = (λ e. cc e, λ e. refl)

-- a step in a row
pub inside-leaves : (s : State) (c : ℕ) → is_inside s ≡ true → Leaves (step default_config s c)
inside-leaves st.StartRecord c h = cc h
inside-leaves st.AfterCr c h = cc h
inside-leaves st.InComment c h = cc h
inside-leaves st.InEscape c h = cc h
inside-leaves st.StartField c h = field-leaves act.Skip (c == 34) (c == 44) (c == 13) (c == 10) refl
inside-leaves st.InField c h = plain-leaves (c == 44) (c == 13) (c == 10)
inside-leaves st.InQuoted c h = quoted-leaves (c == 34)
inside-leaves st.AfterQuote c h = field-leaves act.Copy (c == 34) (c == 44) (c == 13) (c == 10) refl

-- the end of a text ends a row that has begun
pub inside-ends : (s : State) → is_inside s ≡ true → ends_at_end s ≡ true
inside-ends st.StartRecord h = cc h
inside-ends st.AfterCr h = cc h
inside-ends st.InComment h = cc h
inside-ends st.InEscape h = cc h
inside-ends st.StartField h = refl
inside-ends st.InField h = refl
inside-ends st.InQuoted h = refl
inside-ends st.AfterQuote h = refl
