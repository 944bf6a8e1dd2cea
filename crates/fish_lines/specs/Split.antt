-- What a splitter has given and still gives, of the bytes that it was fed.
use Rattle.std.specs.Prelude.{◌≡◌, ◌++◌, ◌&&◌, ℕ, Bool, true, false, List, [], length, nat_eq, nat_lt, if◌then◌else◌}
use Rattle.std.specs.List.{starts_with}
use Rattle.fish_json.specs.Lines.{byte_order_mark, without_mark}
use Rattle.fish_lines.specs.Lines.{last_part, given_lines, parts_in, whole_lines}
use Rattle.fish_lines.specs.Open.{IsLineOpen, line_in}
use Rattle.fish_lines.specs.declared.splitter.Line.{Line}
use Rattle.fish_lines.specs.declared.splitter.Splitter.{Splitter}

-- bytes are the beginning of a byte order mark, and not all of it
abbrev pub is_undecided : List ℕ → Bool
is_undecided b = nat_lt (length b) 3 && starts_with nat_eq byte_order_mark b

-- the lines that a splitter gives without more bytes: those that are ready, and at the end of the file the open one
abbrev pub due : Splitter → List Line
due s = s.ready.items ++ (if s.finished then line_in s.last else [])

-- a splitter that goes on after the bytes b: its open line is what follows the last LF, and either b may
-- still begin a byte order mark, or no byte to come changes whether it does
pub record GoesOnLine (s : Splitter) (b : List ℕ) : Type 0 where
  pub rest : IsLineOpen s.last (last_part (parts_in b))
  pub undecided : s.at_start ≡ true → is_undecided b ≡ true
  pub held : s.at_start ≡ true → s.last.bytes ≡ b
  pub decided : s.at_start ≡ false → (more : List ℕ) → without_mark (b ++ more) ≡ without_mark b ++ more

-- a splitter was fed the bytes b in all, and these of their lines were taken from it: with those that are due
-- they are the lines that an LF ends, and at the end of the file all lines
pub record HasTaken (s : Splitter) (b : List ℕ) (taken : List Line) : Type 0 where
  pub all : taken ++ due s ≡ (if s.finished then given_lines b else whole_lines b)
  pub going : s.finished ≡ false → GoesOnLine s b

-- two splitters hold the same
pub record IsSplitterSame (s u : Splitter) : Type 0 where
  pub ready : u.ready.items ≡ s.ready.items
  pub rest : u.last ≡ s.last
  pub at_start : u.at_start ≡ s.at_start
  pub finished : u.finished ≡ s.finished
