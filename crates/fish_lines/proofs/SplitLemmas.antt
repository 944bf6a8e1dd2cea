-- What a splitter has given and still gives, after each of its steps.
use Rattle.std.proofs.Common.{◌≡◌, ℕ, ◌+◌, ◌<◌, take, length, get_or, List, [], ◌∷◌, ◌++◌, Bool, true, false, refl, sym}
use Rattle.std.proofs.Common.{ap, ◌∙◌, append_assoc, append-nil}
use Rattle.std.specs.List.{concat, slice_split}
use Rattle.std.proofs.lemmas.List.{take_more}
use Rattle.std.proofs.lemmas.List.Folds.{concat-append}
use Rattle.fish_json.specs.Lines.{is_line_end, without_mark}
use Rattle.fish_lines.specs.Lines.{ended_parts, given_of, last_part, given_lines, parts_in, whole_lines}
use Rattle.fish_lines.specs.Open.{IsLineOpen, line_in}
use Rattle.fish_lines.specs.Split.{HasTaken, is_undecided}
use Rattle.fish_lines.specs.declared.open_line.OpenLine.{OpenLine}
use Rattle.fish_lines.specs.declared.splitter.Line.{Line}
use Rattle.fish_lines.specs.declared.splitter.Splitter.{Splitter}
use Rattle.fish_lines.proofs.KeptLemmas.{line_in_open}
use Rattle.fish_lines.proofs.MarkLemmas.{decided_stays, undecided_cases}
use Rattle.fish_lines.proofs.PartLemmas.{ended_parts-append, ended_parts-cut, ended_parts-last, given_of-append, last-append, last-cut}
use Rattle.fish_lines.proofs.PartLemmas.{no_end-front, parts_of_bytes, slice_split-append}

-- ---- a piece after an open line

-- one part in front, and those after it, as lines
pub given_front : (part rest : List ℕ)
    → given_of (ended_parts (part ∷ slice_split is_line_end rest))
    ≡ given_of (part ∷ []) ++ given_of (ended_parts (slice_split is_line_end rest))
given_front part rest = ap given_of (ended_parts-cut part rest)
    ∙ given_of-append (part ∷ []) (ended_parts (slice_split is_line_end rest))

-- a part was cut off, and its line put after others
pub given_push : (b part rest : List ℕ) (o : OpenLine) (front : List Line)
    → slice_split is_line_end b ≡ part ∷ slice_split is_line_end rest → IsLineOpen o part
    → (front ++ line_in o) ++ given_of (ended_parts (slice_split is_line_end rest))
    ≡ front ++ given_of (ended_parts (slice_split is_line_end b))
given_push b part rest o front cut is =
    let more = given_of (ended_parts (slice_split is_line_end rest)) in
    append_assoc front (line_in o) more
    ∙ ap (λ l. front ++ l) (ap (λ l. l ++ more) (line_in_open o part is) ∙ sym (given_front part rest)
    ∙ ap (λ parts. given_of (ended_parts parts)) (sym cut))

pub last_push : (b part rest : List ℕ) → slice_split is_line_end b ≡ part ∷ slice_split is_line_end rest
    → last_part (slice_split is_line_end rest) ≡ last_part (slice_split is_line_end b)
last_push b part rest cut = sym (ap last_part cut ∙ last-cut part rest)

-- the first LF of a piece ends the open line
pub front_ends : (t piece front behind : List ℕ) → slice_split is_line_end t ≡ t ∷ []
    → slice_split is_line_end piece ≡ front ∷ slice_split is_line_end behind
    → slice_split is_line_end (t ++ piece) ≡ (t ++ front) ∷ slice_split is_line_end behind
front_ends t piece front behind one cut = no_end-front t piece front (slice_split is_line_end behind) one cut

-- ---- the bytes so far, and more

-- the parts of bytes with more after them, where a byte order mark is decided
parts-more : (b p : List ℕ) → without_mark (b ++ p) ≡ without_mark b ++ p
    → parts_in (b ++ p) ≡ ended_parts (parts_in b) ++ slice_split is_line_end (last_part (parts_in b) ++ p)
parts-more b p h = ap (slice_split is_line_end) h ∙ slice_split-append (without_mark b) p

-- the lines that an LF ends, and the part after the last, then
pub whole_lines-more : (b p : List ℕ) → without_mark (b ++ p) ≡ without_mark b ++ p
    → whole_lines (b ++ p) ≡ whole_lines b ++ given_of (ended_parts (slice_split is_line_end (last_part (parts_in b) ++ p)))
unfolding whole_lines
whole_lines-more b p h =
    let q = parts_of_bytes (last_part (parts_in b) ++ p) in
    let all : ended_parts (parts_in (b ++ p))
    ≡ ended_parts (parts_in b) ++ ended_parts (slice_split is_line_end (last_part (parts_in b) ++ p)) =
    ap ended_parts (parts-more b p h ∙ ap (λ l. ended_parts (parts_in b) ++ l) q.are)
    ∙ ended_parts-append (ended_parts (parts_in b)) q.first q.more
    ∙ ap (λ l. ended_parts (parts_in b) ++ ended_parts l) (sym q.are) in
    ap given_of all ∙ given_of-append (ended_parts (parts_in b)) _

pub last_part-more : (b p : List ℕ) → without_mark (b ++ p) ≡ without_mark b ++ p
    → last_part (parts_in (b ++ p)) ≡ last_part (slice_split is_line_end (last_part (parts_in b) ++ p))
last_part-more b p h =
    let q = parts_of_bytes (last_part (parts_in b) ++ p) in
    ap last_part (parts-more b p h ∙ ap (λ l. ended_parts (parts_in b) ++ l) q.are)
    ∙ last-append (ended_parts (parts_in b)) q.first q.more ∙ ap last_part (sym q.are)

-- all lines are those that an LF ends and the one after the last
given_lines-whole : (b : List ℕ) → given_lines b ≡ whole_lines b ++ given_of (last_part (parts_in b) ∷ [])
unfolding given_lines whole_lines
given_lines-whole b =
    let q = parts_of_bytes (without_mark b) in
    let all : parts_in b ≡ ended_parts (parts_in b) ++ last_part (parts_in b) ∷ [] =
    q.are ∙ sym (ended_parts-last q.first q.more) ∙ sym (ap (λ parts. ended_parts parts ++ last_part parts ∷ []) q.are) in
    ap given_of all ∙ given_of-append (ended_parts (parts_in b)) (last_part (parts_in b) ∷ [])

-- ---- the end of the file

finish-cases : (s : Splitter) (b : List ℕ) (taken : List Line) (f : Bool) → s.finished ≡ f → HasTaken s b taken
    → HasTaken (record s { finished = true }) b taken
finish-cases s b taken true e h = record { all = rw e at h.all; going = λ wrong. cc }
finish-cases s b taken false e h = record {
  all =
      let g = h.going e in
      let last = line_in s.last in
      let before : taken ++ (s.ready.items ++ []) ≡ whole_lines b = rw e at h.all in
      ap (λ l. taken ++ (l ++ last)) (sym (append-nil s.ready.items))
      ∙ ap (λ l. taken ++ l) (append_assoc s.ready.items [] last)
      ∙ sym (append_assoc taken s.ready.items last)
      ∙ ap (λ l. l ++ last) (ap (λ l. taken ++ l) (sym (append-nil s.ready.items)) ∙ before)
      ∙ ap (λ l. whole_lines b ++ l) (line_in_open s.last (last_part (parts_in b)) g.rest) ∙ sym (given_lines-whole b);
  going = λ wrong. cc;
}

-- a splitter at the end of its file gives the open line too
pub HasTaken-finish : (s : Splitter) (b : List ℕ) (taken : List Line) → HasTaken s b taken
    → HasTaken (record s { finished = true }) b taken
HasTaken-finish s b taken h = finish-cases s b taken s.finished refl h

-- ---- more bytes

-- where a byte order mark is decided, the piece's lines follow those before
pub HasTaken-more : (s u : Splitter) (b p : List ℕ) (taken : List Line) → HasTaken s b taken
    → s.finished ≡ false → s.at_start ≡ false
    → u.finished ≡ false → u.at_start ≡ false
    → u.ready.items ≡ s.ready.items ++ given_of (ended_parts (slice_split is_line_end (last_part (parts_in b) ++ p)))
    → IsLineOpen u.last (last_part (slice_split is_line_end (last_part (parts_in b) ++ p))) → HasTaken u (b ++ p) taken
HasTaken-more s u b p taken h going behind goes stays ready rest =
    let g = h.going going in
    let decided = g.decided behind in
    let more = given_of (ended_parts (slice_split is_line_end (last_part (parts_in b) ++ p))) in
    let before : taken ++ (s.ready.items ++ []) ≡ whole_lines b = rw going at h.all in
    record {
      all = rw goes (
          ap (λ l. taken ++ l) (append-nil u.ready.items ∙ ready) ∙ sym (append_assoc taken s.ready.items more)
          ∙ ap (λ l. l ++ more) (ap (λ l. taken ++ l) (sym (append-nil s.ready.items)) ∙ before)
          ∙ sym (whole_lines-more b p (decided p)));
      going = λ _. record {
        rest = rw (last_part-more b p (decided p)) rest;
        undecided = λ wrong. cc;
        held = λ wrong. cc;
        decided = λ _ later. ap without_mark (append_assoc b p later) ∙ decided (p ++ later)
            ∙ sym (append_assoc (without_mark b) p later)
            ∙ ap (λ l. l ++ later) (sym (decided p));
      };
    }

-- no LF stands in what may begin a byte order mark
undecided-given_lines : (b : List ℕ) → is_undecided b ≡ true → whole_lines b ≡ []
unfolding whole_lines
undecided-given_lines b h = undecided_cases (λ l. given_of (ended_parts (parts_in l)) ≡ []) refl refl refl b h

-- and an open line holds all of it
undecided-held : (o : OpenLine) (b : List ℕ) → is_undecided b ≡ true → IsLineOpen o (last_part (parts_in b)) → o.bytes ≡ b
undecided-held o b h = undecided_cases (λ l. IsLineOpen o (last_part (parts_in l)) → o.bytes ≡ l) (λ is. is.kept)
    (λ is. is.kept) (λ is. is.kept) b h

-- from bytes that may begin a byte order mark, all is taken at once
pub HasTaken-begin : (s u : Splitter) (b whole : List ℕ) (taken : List Line) → is_undecided b ≡ true
    → HasTaken s b taken → s.finished ≡ false
    → u.finished ≡ false → u.at_start ≡ is_undecided whole
    → u.ready.items ≡ s.ready.items ++ given_of (ended_parts (parts_in whole))
    → IsLineOpen u.last (last_part (parts_in whole)) → HasTaken u whole taken
unfolding whole_lines
HasTaken-begin s u b whole taken undecided h going goes start ready rest =
    let more = given_of (ended_parts (parts_in whole)) in
    let before : taken ++ (s.ready.items ++ []) ≡ whole_lines b = rw going at h.all in
    let none : taken ++ s.ready.items ≡ [] = ap (λ l. taken ++ l) (sym (append-nil s.ready.items)) ∙ before
    ∙ undecided-given_lines b undecided in
    record {
      all = rw goes (ap (λ l. taken ++ l) (append-nil u.ready.items ∙ ready)
          ∙ sym (append_assoc taken s.ready.items more) ∙ ap (λ l. l ++ more) none);
      going = λ _. record {
        rest = rest;
        undecided = λ is. sym start ∙ is;
        held = λ is. undecided-held u.last whole (sym start ∙ is) rest;
        decided = λ is. decided_stays whole (sym start ∙ is);
      };
    }

-- one more piece goes after the bytes of the pieces before
pub pieces_more : (pieces : List (List ℕ)) (i : ℕ) (piece : List ℕ) → i < length pieces → piece ≡ get_or pieces i piece
    → concat (take i pieces) ++ piece ≡ concat (take (i + 1) pieces)
pieces_more pieces i piece within is =
    ap (λ l. concat (take i pieces) ++ l) (sym (append-nil piece)) ∙ sym (concat-append (take i pieces) (piece ∷ []))
    ∙ ap (λ l. concat (take i pieces ++ l ∷ [])) is ∙ sym (ap concat (take_more pieces i piece within))
