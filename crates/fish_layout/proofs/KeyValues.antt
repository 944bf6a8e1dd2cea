-- A key entry points at its value among the words after all entries.
use Rattle.std.proofs.Common.{◌≡◌, ℕ, ◌+◌, ◌-◌, ◌*◌, ◌<◌, ◌≤◌, List, length, take, drop, get_or}
use Rattle.std.proofs.Common.{sym, ap, ◌∙◌, arith, length-drop}
use Rattle.fish_layout.specs.Body.{IsBody, IsProperValue, values_of}
use Rattle.fish_layout.specs.Bytes.{bytes_in, words_for}
use Rattle.fish_layout.specs.Entry.{value_kind, value_offset, value_size}
use Rattle.fish_layout.specs.Values.{kind_code, value_bytes}
use Rattle.fish_layout.specs.declared.parts.BodyParts.{BodyParts}
use Rattle.fish_layout.specs.declared.parts.KeyPart.{KeyPart}
use Rattle.fish_layout.proofs.Entries.{proper_at, values_within}
use Rattle.fish_layout.proofs.KeyWords.{body_key, value_pointed}
use Rattle.fish_layout.proofs.Outlines.{body_room, body_values, range_from}

-- the third word of an entry points at its value in these words
pub record PointsAt (third : ℕ) (behind : List ℕ) (k : KeyPart) (n : ℕ) : Type 0 where
  pub proper : IsProperValue k.value
  pub kind : value_kind third ≡ kind_code k.value
  pub within : value_offset third + value_size third ≤ n
  pub room : words_for n ≤ length behind
  pub bytes : take (value_size third) (drop (value_offset third) (bytes_in behind n)) ≡ value_bytes k.value

pub key_points : {p : BodyParts} {ws : List ℕ} → IsBody p ws → (c : ℕ) (k : KeyPart) → c < length p.keys → k ≡ get_or p.keys c k →
    (keys : ℕ) → keys ≡ length p.keys →
    PointsAt (get_or ws (1 + 3 * c + 2) 0) (take (length ws - (1 + 3 * keys)) (drop (1 + 3 * keys) ws)) k (length (values_of p.keys))
key_points {p} {ws} h c k within is keys counted =
    let says = body_key c k h within is in
    let third = get_or ws (1 + 3 * c + 2) 0 in
    let from = value_offset third in
    let many = value_size third in
    let all : bytes_in (take (length ws - (1 + 3 * keys)) (drop (1 + 3 * keys) ws)) (length (values_of p.keys)) ≡ values_of p.keys =
    ap (λ b. bytes_in b (length (values_of p.keys))) (range_from ws (1 + 3 * keys))
    ∙ ap (λ n. bytes_in (drop (1 + 3 * n) ws) (length (values_of p.keys))) counted
    ∙ body_values h in
    let size : from + many - from ≡ many = omega arith in
    record {
      proper = (proper_at 0 p.keys c k h.proper.keys within is).1;
      kind = says.kind;
      within = omega (arith, values_within p.keys c k within is, says.offset, says.size);
      room = omega (arith, body_room h, ap length (range_from ws (1 + 3 * keys)), length-drop (1 + 3 * keys) ws);
      bytes = ap (λ m. take m (drop from (bytes_in (take (length ws - (1 + 3 * keys)) (drop (1 + 3 * keys) ws))
          (length (values_of p.keys))))) (sym size)
          ∙ value_pointed c k _ from many h within is all (λ i. from) (λ i. many);
    }
