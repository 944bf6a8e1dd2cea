-- What the functions that read a region stand on.
use Rattle.std.proofs.Common.{◌≡◌, ℕ, ◌+◌, ◌<◌, ◌≤◌, ◌^◌, List, [], ◌∷◌, true, false, Bool}
use Rattle.std.proofs.Common.{length, drop, get_or, set, refl, sym, ap, subst, ◌∙◌, arith}
use Rattle.std.specs.Prelude.{◌==◌, if◌then◌else◌}
use Rattle.std.proofs.lemmas.List.{get_or-set_other, get_or-set_same, length-set}
use Rattle.std.proofs.Math.Decide.{ℕ_discrete}
use Rattle.std.proofs.lemmas.Bool.{eq-eqb, eqb-true}
use Rattle.std.proofs.lemmas.List.{drop_all}
use Rattle.std.proofs.lemmas.Option.{get_or_from_slice_get}
use Rattle.fish_layout.specs.Body.{body_header}
use Rattle.fish_layout.specs.Header.{form_code, form_of, void_word}
use Rattle.fish_layout.proofs.Fields.{form_code_fits, form_of-header}
use Rattle.fish_layout.proofs.Headers.{form_of-void}
use Rattle.fish_layout.proofs.Spelled.{body_head, header_fits}
use Rattle.fish_image.specs.Log.{void_words}
use Rattle.fish_layout.specs.Body.{IsBody}
use Rattle.fish_layout.specs.within.Cleared.{IsNumberWord}
use Rattle.fish_layout.specs.declared.parts.BodyParts.{BodyParts}
use Rattle.fish_layout.specs.declared.parts.KeyPart.{KeyPart}
use Rattle.fish_layout.proofs.Numbers.{body_numbered}
use Rattle.fish_image.specs.Progress.{AreHeads}
use Rattle.fish_image.specs.Reached.{AreLinked, bucket_of_key, head_of, with_keys}
use Rattle.fish_layout.specs.Pages.{place_of}
use Rattle.fish_image.proofs.Spelling.{parted}

-- of no key entry is a word the second
no_entry : (i : ℕ) → IsNumberWord 0 i → ⊥
no_entry i entry = (let first = entry.0 in let second = entry.1 in omega arith)

-- of a record with no key the words don't say the number
pub keyless : (p : BodyParts) (ws : List ℕ) (n : ℕ) → IsBody p ws → length p.keys ≡ 0 → n < 2 ^ 28 → IsBody (record p { number = n }) ws
keyless p ws n h none small =
    body_numbered n ws h small refl (λ i other. refl)
    (λ i entry. absurd (no_entry i (subst (λ (k : ℕ). IsNumberWord k i) none entry)))

-- ---- chains

-- the first of two where the test holds
first_of_two : (t : Bool) (x y : ℕ) → t ≡ true → (if t then x else y) ≡ x
first_of_two true x y h = refl
first_of_two false x y h = absurd (cc h)

-- the second where it doesn't
second_of_two : (t : Bool) (x y : ℕ) → (t ≡ true → ⊥) → (if t then x else y) ≡ y
second_of_two true x y h = absurd (h refl)
second_of_two false x y h = refl

-- the newest key entry of its bucket
head_here : (places : List (ℕ × ℕ)) (b p : ℕ) → head_of ((b, p) ∷ places) b ≡ p
head_here places b p = first_of_two (b == b) p (head_of places b) (eq-eqb b b refl)

-- and of another bucket
head_there : (places : List (ℕ × ℕ)) (b p other : ℕ) → (other ≡ b → ⊥) → head_of ((b, p) ∷ places) other ≡ head_of places other
head_there places b p other apart =
    second_of_two (b == other) p (head_of places other) (λ same. apart (sym (eqb-true b other same)))

-- one key entry more
heads_more : (n : ℕ) (places : List (ℕ × ℕ)) (heads : List ℕ) (b p : ℕ) → AreHeads n places heads → b < n
    → AreHeads n ((b, p) ∷ places) (set heads b p)
heads_more n places heads b p h less = record {
  size = length-set heads b p ∙ h.size;
  each = λ other within. elim (ℕ_discrete other b) as (λ _. get_or (set heads b p) other 0 ≡ head_of ((b, p) ∷ places) other) [
    | yes same ↦ ap (λ (k : ℕ). get_or (set heads b p) k 0) same
        ∙ get_or-set_same heads b p 0 (let size = h.size in omega arith)
        ∙ sym (head_here places b p) ∙ ap (head_of ((b, p) ∷ places)) (sym same)
    | no apart ↦ get_or-set_other heads b other p 0 apart ∙ h.each other within ∙ sym (head_there places b p other apart)
  ];
}

-- the first c key entries are linked, and what is asked of the others is all that is asked
pub record IsLinkedTo (n line c : ℕ) (keys : List KeyPart) (places q : List (ℕ × ℕ)) (now : List ℕ) : Type 0 where
  pub heads : AreHeads n q now
  pub there : AreLinked n line c (drop c keys) q → AreLinked n line 0 keys places
  pub back : AreLinked n line 0 keys places → AreLinked n line c (drop c keys) q
  pub same : with_keys n line c (drop c keys) q ≡ with_keys n line 0 keys places

-- none of them is
pub link_first : (n line : ℕ) (keys : List KeyPart) (places : List (ℕ × ℕ)) (now : List ℕ) → AreHeads n places now
    → IsLinkedTo n line 0 keys places places now
link_first n line keys places now h = record { heads = h; there = λ x. x; back = λ x. x; same = refl }

-- the next key entry stands before the others
pub next_key : (keys : List KeyPart) (c : ℕ) (key : KeyPart) → c < length keys → key ≡ get_or keys c key
    → drop c keys ≡ key ∷ drop (c + 1) keys
next_key keys c key less is =
    let t = parted keys c less in
    let same : t.0 ≡ key = sym (is ∙ get_or_from_slice_get keys c t.0 key t.1) in
    t.2 ∙ ap (λ (k : KeyPart). k ∷ drop (c + 1) keys) same

module _ {n line c : ℕ} {keys : List KeyPart} {places q : List (ℕ × ℕ)} {now : List ℕ} (key : KeyPart)
    (h : IsLinkedTo n line c keys places q now) (less : c < length keys) (is : key ≡ get_or keys c key)
    (b : ℕ) (bucket : b ≡ bucket_of_key n key) (fits : b < n) where
  -- the others, with the next in front
  front : drop c keys ≡ key ∷ drop (c + 1) keys
  front = next_key keys c key less is

  -- the head of its bucket
  head_is : get_or now b 0 ≡ head_of q (bucket_of_key n key)
  head_is = h.heads.each b fits ∙ ap (head_of q) bucket

  -- it is linked, too
  pub link_next : (p : ℕ) → p ≡ place_of line c → get_or now b 0 ≡ key.prev
      → IsLinkedTo n line (c + 1) keys places ((bucket_of_key n key, place_of line c) ∷ q) (set now b p)
  link_next p place prev = record {
    heads = subst (λ (k : ℕ). AreHeads n ((k, place_of line c) ∷ q) (set now b p)) bucket
        (subst (λ (k : ℕ). AreHeads n ((b, k) ∷ q) (set now b p)) place (heads_more n q now b p h.heads fits));
    there = λ rest. h.there (subst (λ (z : List KeyPart). AreLinked n line c z q) (sym front) ((sym prev ∙ head_is), rest));
    back = λ all. (subst (λ (z : List KeyPart). AreLinked n line c z q) front (h.back all)).1;
    same = ap (λ (z : List KeyPart). with_keys n line c z q) (sym front) ∙ h.same;
  }

  -- it can't be
  pub link_stops : (get_or now b 0 ≡ key.prev → ⊥) → AreLinked n line 0 keys places → ⊥
  link_stops apart all =
      apart (head_is ∙ sym (subst (λ (z : List KeyPart). AreLinked n line c z q) front (h.back all)).0)

-- all are linked
pub link_all : {n line c : ℕ} {keys : List KeyPart} {places q : List (ℕ × ℕ)} {now : List ℕ} → IsLinkedTo n line c keys places q now
    → length keys ≤ c → AreLinked n line 0 keys places × AreHeads n (with_keys n line 0 keys places) now
link_all {n} {line} {c} {keys} {places} {q} {now} h end =
    let none : drop c keys ≡ [] = drop_all c keys end in (
      h.there (subst (λ (z : List KeyPart). AreLinked n line c z q) (sym none) tt),
      subst (λ (z : List (ℕ × ℕ)). AreHeads n z now) (ap (λ (z : List KeyPart). with_keys n line c z q) (sym none) ∙ h.same) h.heads,
    )

-- ---- a void is no record

-- the words of a record are not those of a void
pub no_void : (p : BodyParts) (r : List ℕ) (lines : ℕ) → IsBody p r → r ≡ void_words lines → lines < 2 ^ 16 → ⊥
no_void p r lines h void small =
    let head : body_header p ≡ void_word lines =
    sym (body_head p) ∙ ap (λ (l : List ℕ). get_or l 0 0) (sym h.is ∙ void) in
    let form = form_code_fits p.form in
    let same : form_code p.form ≡ 2 =
    sym (form_of-header (header_fits p h.proper)) ∙ ap form_of head ∙ form_of-void lines small in
    omega arith
