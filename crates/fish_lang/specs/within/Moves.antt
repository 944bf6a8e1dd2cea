-- Where a token leads, why one that fits is refused, and where a definition may end. These words are for
-- the clauses of private functions.
use Rattle.std.specs.Prelude.{ℕ, pos, List, [], ◌∷◌, ◌++◌, Bool, true, false, Option, Some, None, option_map, unwrap_or}
use Rattle.std.specs.Prelude.{if◌then◌else◌}
use Rattle.fish_value.specs.declared.value.Value.{Value}
use Rattle.fish_value.specs.declared.value.Value.TheVariants as value
use Rattle.fish_lang.specs.Definition.{Steps, Formula, compares, is_there, begins, Definition, takes, eaches, buckets}
use Rattle.fish_lang.specs.Definition.{flags}
use Rattle.fish_lang.specs.within.Machine.{Enclosing, top, in_group, Joint, Operand, in_joint, behind_or, behind_and}
use Rattle.fish_lang.specs.within.Machine.{under_not}
use Rattle.fish_lang.specs.within.Machine.{Head, take_when, each_when, bucket_when, flag_when, Owner, of_take, of_each}
use Rattle.fish_lang.specs.within.Machine.{of_bucket, of_test, State}
use Rattle.fish_lang.specs.within.Machine.{start, flag, step, behind_step, width, behind_width, operand, literal}
use Rattle.fish_lang.specs.within.Machine.{prefix}
use Rattle.fish_lang.specs.within.Machine.{behind_operand, nesting, or_with, whole_of, complete, at_front}
use Rattle.fish_lang.specs.Grammar.{number_fault, width_fault, nesting_fault}
use Rattle.fish_lang.specs.declared.fault.Fault.{Fault}
use Rattle.fish_lang.specs.declared.token.Keyword.TheVariants.{Take, Each, Bucket, Flag, By, When}
use Rattle.fish_lang.specs.declared.token.Keyword.TheVariants.{Not, And, Or, Exists, Starts, True, False}
use Rattle.fish_lang.specs.declared.token.Token.{Token}
use Rattle.fish_lang.specs.declared.token.Token.TheVariants.{Keyword, Ident, Str, Number, Compare, Open, Close, Dot}

abbrev pub name_of : Token → Option (List ℕ)
name_of (Ident s) = Some s
name_of (Str s) = Some s
name_of _ = None

abbrev pub text_of_token : Token → Option (List ℕ)
text_of_token (Str s) = Some s
text_of_token _ = None

abbrev pub value_of_token : Token → Option Value
value_of_token (Keyword True) = Some (value.Bool true)
value_of_token (Keyword False) = Some (value.Bool false)
value_of_token (Number negative n) = Some (value.Int (unwrap_or n (pos 0)))
value_of_token (Str s) = Some (value.Text s)
value_of_token _ = None

abbrev pub from_start : Token → Option State
from_start (Keyword Take) = Some (step of_take [])
from_start (Keyword Each) = Some (step of_each [])
from_start (Keyword Bucket) = Some (step of_bucket [])
from_start (Keyword Flag) = Some flag
from_start _ = None

-- `when` begins a condition
abbrev pub from_head : Head → Token → Option State
from_head h (Keyword When) = Some (operand h (at_front top))
from_head h _ = None

abbrev pub behind_bucket : Steps → Token → Option State
behind_bucket p (Keyword By) = Some (width p)
behind_bucket p _ = None

abbrev pub behind_test : Head → Operand → Steps → Token → Option State
behind_test h k p (Compare op) = Some (literal h k p op)
behind_test h k p (Keyword Exists) = Some (complete h k (is_there p))
behind_test h k p (Keyword Starts) = Some (prefix h k p)
behind_test h k p _ = None

abbrev pub behind_path : Owner → Steps → Token → Option State
behind_path of_take p t = from_head (take_when p) t
behind_path of_each p t = from_head (each_when p) t
behind_path of_bucket p t = behind_bucket p t
behind_path (of_test h k) p t = behind_test h k p t

-- a path goes on after a dot
abbrev pub from_path : Owner → Steps → Token → Option State
from_path owner p Dot = Some (step owner p)
from_path owner p t = behind_path owner p t

abbrev pub from_width : Steps → Token → Option State
from_width p (Number false n) = Some (behind_width p (unwrap_or n (pos 0)))
from_width p _ = None

abbrev pub from_operand : Head → Operand → Token → Option State
from_operand h k (Keyword Not) = Some (operand h (under_not k))
from_operand h k Open = Some (operand h (at_front (in_group k)))
from_operand h k t = option_map (λ s. behind_step (of_test h k) (s ∷ [])) (name_of t)

-- `)` ends a group
abbrev pub close : Head → Enclosing → Formula → Option State
close h top a = None
close h (in_group k) a = Some (complete h k a)

abbrev pub from_joint : Head → Joint → Formula → Token → Option State
from_joint h j a (Keyword And) = Some (operand h (behind_and a j))
from_joint h j a (Keyword Or) = Some (operand h (in_joint (behind_or (or_with j a) (whole_of j))))
from_joint h j a Close = close h (whole_of j) (or_with j a)
from_joint h j a _ = None

-- where a token leads: nowhere if it doesn't fit
abbrev pub advance : State → Token → Option State
advance start t = from_start t
advance flag t = from_head flag_when t
advance (step owner p) t = option_map (λ s. behind_step owner (p ++ s ∷ [])) (name_of t)
advance (behind_step owner p) t = from_path owner p t
advance (width p) t = from_width p t
advance (behind_width p n) t = from_head (bucket_when p n) t
advance (operand h k) t = from_operand h k t
advance (literal h k p op) t = option_map (λ v. complete h k (compares p op v)) (value_of_token t)
advance (prefix h k p) t = option_map (λ s. complete h k (begins p s)) (text_of_token t)
advance (behind_operand h j a) t = from_joint h j a t

abbrev pub nests : Token → Bool
nests (Keyword Not) = true
nests Open = true
nests _ = false

abbrev pub number_of_token : Token → Option Fault
number_of_token (Number negative n) = number_fault n
number_of_token _ = None

abbrev pub width_of : Token → Option Fault
width_of (Number negative n) = width_fault n
width_of _ = None

-- why a token that fits is refused
abbrev pub fault_at : State → Token → Option Fault
fault_at (operand h k) t = if nests t then nesting_fault (nesting k) else None
fault_at (literal h k p op) t = number_of_token t
fault_at (width p) t = width_of t
fault_at _ t = None

abbrev pub definition_with : Head → Formula → Definition
definition_with (take_when p) a = takes p (Some a)
definition_with (each_when p) a = eaches p (Some a)
definition_with (bucket_when p n) a = buckets p n (Some a)
definition_with flag_when a = flags a

abbrev pub definition_at : Head → Enclosing → Formula → Option Definition
definition_at h top a = Some (definition_with h a)
definition_at h (in_group k) a = None

-- the definition that ends here
abbrev pub finish : State → Option Definition
finish (behind_step of_take p) = Some (takes p None)
finish (behind_step of_each p) = Some (eaches p None)
finish (behind_width p n) = Some (buckets p n None)
finish (behind_operand h j a) = definition_at h (whole_of j) (or_with j a)
finish _ = None
