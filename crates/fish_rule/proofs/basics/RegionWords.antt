-- The words of a region that are read one by one.
use Rattle.std.proofs.Common.{◌≡◌, ℕ, ◌+◌, ◌-◌, ◌*◌, ◌%◌, ◌<◌, suc, List, [], ◌∷◌, ◌++◌, length, get_or, refl, sym, ap, ◌∙◌}
use Rattle.std.proofs.Common.{subst, arith, length-append, append_assoc, ⊎_elim, inl, inr}
use Rattle.std.proofs.Math.Decide.{dec_lt, ℕ_discrete}
use Rattle.std.proofs.Math.Seq.{get_or-append_right, get_or-append_seam}
use Rattle.std.proofs.lemmas.List.{get_or_append_left}
use Rattle.fish_layout.specs.Cleared.{IsKeyWord}
use Rattle.fish_layout.specs.Header.{keys_of}
use Rattle.fish_rule.specs.Logs.{Extends}
use Rattle.fish_rule.specs.LoadSteps.{CanReadWord}
use Rattle.fish_rule.proofs.basics.Context.{Among, Found, View}

-- each word so far that is no first word of one of n key entries is known
abbrev pub AreRead : View → ℕ → ℕ → List ℕ → Type 0
AreRead v line n words = (i : ℕ) → i < length words → ¬ IsKeyWord n i
    → Among (record { place = line * 4 + i; value = get_or words i 0 }) v.learned.known

-- the header is no first word of a key entry
pub head_plain : (n : ℕ) → ¬ IsKeyWord n 0
head_plain n k = (let m : 0 % 3 ≡ 1 = k.1 in absurd (omega arith))

-- so it is known
pub head_read : (v : View) (line n h : ℕ) (words : List ℕ) → 0 < length words → get_or words 0 0 ≡ h
    → AreRead v line n words → Among (record { place = line * 4; value = h }) v.learned.known
head_read v line n h words some head read =
    let place : line * 4 + 0 ≡ line * 4 = omega arith in
    subst (λ (z : ℕ × ℕ). Among (record { place = z.0; value = z.1 }) v.learned.known) (λ i. (place i, head i))
    (read 0 some (head_plain n))

-- one more word
pub read_more : (v u : View) (line n x : ℕ) (words : List ℕ) → Extends v u → AreRead v line n words
    → (¬ IsKeyWord n (length words) → Among (record { place = line * 4 + length words; value = x }) u.learned.known)
    → AreRead u line n (words ++ x ∷ [])
read_more v u line n x words extends read here i less plain = pick (ℕ_discrete i (length words))
  where
    pick : Dec (i ≡ length words) → Among
        (record { place = line * 4 + i; value = get_or (words ++ x ∷ []) i 0 }) u.learned.known
    pick (yes e) =
        let last : x ≡ get_or (words ++ x ∷ []) i 0 = sym (get_or-append_seam words x [] 0)
        ∙ ap (λ (z : ℕ). get_or (words ++ x ∷ []) z 0) (sym e) in
        subst (λ (z : ℕ × ℕ). Among (record { place = line * 4 + z.0; value = z.1 }) u.learned.known)
        (λ j. (sym e j, last j)) (here (subst (λ (z : ℕ). ¬ IsKeyWord n z) e plain))
    pick (no ne) =
        let longer = length-append words (x ∷ []) in
        let before : i < length words = omega arith in
        subst (λ (z : ℕ). Among (record { place = line * 4 + i; value = z }) u.learned.known)
        (sym (get_or_append_left words (x ∷ []) 0 i before)) (extends.learns.known _ (read i before plain))

-- the header stays the first
pub head_stays : (words : List ℕ) (x h : ℕ) → 0 < length words → get_or words 0 0 ≡ h → get_or (words ++ x ∷ []) 0 0 ≡ h
head_stays words x h some head = get_or_append_left words (x ∷ []) 0 0 some ∙ head

-- ---- words after others

-- so many words, each known, from one on, come after those of before
pub record AreMore (v : View) (line from many : ℕ) (words longer : List ℕ) : Type 0 where
  pub more : List ℕ
  pub behind : longer ≡ words ++ more
  pub long : length more ≡ many
  pub read : (i : ℕ) → i < length more
      → Among (record { place = line * 4 + (from + i); value = get_or more i 0 }) v.learned.known

-- one more
pub more_one : (v u : View) (line from many x : ℕ) (words longer : List ℕ) → Extends v u
    → AreMore v line from many words longer
    → Among (record { place = line * 4 + (from + many); value = x }) u.learned.known
    → AreMore u line from (suc many) words (longer ++ x ∷ [])
more_one v u line from many x words longer extends h here = record {
  more = h.more ++ x ∷ [];
  behind = ap (λ (z : List ℕ). z ++ x ∷ []) h.behind ∙ append_assoc words h.more (x ∷ []);
  long = (let e = length-append h.more (x ∷ []) in let l = h.long in omega arith);
  read = λ i less. pick i less (ℕ_discrete i (length h.more));
}
  where
    pick : (i : ℕ) → i < length (h.more ++ x ∷ []) → Dec (i ≡ length h.more)
        → Among (record { place = line * 4 + (from + i); value = get_or (h.more ++ x ∷ []) i 0 }) u.learned.known
    pick i less (yes e) =
        let last : x ≡ get_or (h.more ++ x ∷ []) i 0 = sym (get_or-append_seam h.more x [] 0)
        ∙ ap (λ (z : ℕ). get_or (h.more ++ x ∷ []) z 0) (sym e) in
        subst (λ (z : ℕ × ℕ). Among (record { place = line * 4 + (from + z.0); value = z.1 }) u.learned.known)
        (λ j. (sym (e ∙ h.long) j, last j)) here
    pick i less (no ne) =
        let longer = length-append h.more (x ∷ []) in
        let before : i < length h.more = omega arith in
        subst (λ (z : ℕ). Among (record { place = line * 4 + (from + i); value = z }) u.learned.known)
        (sym (get_or_append_left h.more (x ∷ []) 0 i before)) (extends.learns.known _ (h.read i before))

-- with them all words are read
pub read_behind : (v u : View) (line n from : ℕ) (words more : List ℕ) → Extends v u → length words ≡ from
    → AreRead v line n words
    → ((i : ℕ) → i < length more
    → Among (record { place = line * 4 + (from + i); value = get_or more i 0 }) u.learned.known)
    → AreRead u line n (words ++ more)
read_behind v u line n from words more extends long read rest i less plain = pick (dec_lt i (length words))
  where
    pick : Dec (i < length words)
        → Among (record { place = line * 4 + i; value = get_or (words ++ more) i 0 }) u.learned.known
    pick (yes before) =
        subst (λ (z : ℕ). Among (record { place = line * 4 + i; value = z }) u.learned.known)
        (sym (get_or_append_left words more 0 i before)) (extends.learns.known _ (read i before plain))
    pick (no behind) =
        let longer = length-append words more in
        let place : from + (i - length words) ≡ i = omega arith in
        let value : get_or (words ++ more) i 0 ≡ get_or more (i - length words) 0 =
        get_or-append_right words more i 0 (omega arith) in
        subst (λ (z : ℕ × ℕ). Among (record { place = line * 4 + z.0; value = z.1 }) u.learned.known)
        (λ j. (place j, sym value j)) (rest (i - length words) (omega arith))

-- ---- a region after others

-- so many words of the region at a line come after others, its header first, each known but for the first ones of key entries
pub record ArePut (v : View) (line header many : ℕ) (words longer : List ℕ) : Type 0 where
  pub more : List ℕ
  pub behind : longer ≡ words ++ more
  pub long : length more ≡ many
  pub head : get_or more 0 0 ≡ header
  pub read : AreRead v line (keys_of header) more

-- the header alone
pub put_head : (v : View) (line header : ℕ) (words longer : List ℕ) → longer ≡ words ++ header ∷ []
    → Among (record { place = line * 4; value = header }) v.learned.known → ArePut v line header 1 words longer
put_head v line header words longer behind known = record {
  more = header ∷ [];
  behind = behind;
  long = refl;
  head = refl;
  read = λ i less plain.
      let first : i ≡ 0 = omega arith in
      let place : line * 4 ≡ line * 4 + i = omega arith in
      subst (λ (z : ℕ × ℕ). Among (record { place = z.0; value = get_or (header ∷ []) z.1 0 }) v.learned.known)
      (λ j. (place j, sym first j)) known;
}

-- with them there are so many more
pub put_size : {v : View} {line header many : ℕ} {words longer : List ℕ} → ArePut v line header many words longer
    → length longer ≡ length words + many
put_size {v} {line} {header} {many} {words} {longer} h =
    ap length h.behind ∙ length-append words h.more ∙ ap (λ (z : ℕ). length words + z) h.long

-- its header is known
pub put_known : (v : View) (line header many : ℕ) (words longer : List ℕ) → 0 < many → ArePut v line header many words longer
    → Among (record { place = line * 4; value = header }) v.learned.known
put_known v line header many words longer some h =
    let long = h.long in
    head_read v line (keys_of header) header h.more (omega arith) h.head h.read

-- one more word
pub put_more : (v u : View) (line header many x : ℕ) (words longer : List ℕ) → 0 < many → Extends v u
    → ArePut v line header many words longer
    → (¬ IsKeyWord (keys_of header) many → Among (record { place = line * 4 + many; value = x }) u.learned.known)
    → ArePut u line header (many + 1) words (longer ++ x ∷ [])
put_more v u line header many x words longer some extends h here =
    let long = h.long in
    record {
      more = h.more ++ x ∷ [];
      behind = ap (λ (z : List ℕ). z ++ x ∷ []) h.behind ∙ append_assoc words h.more (x ∷ []);
      long = length-append h.more (x ∷ []) ∙ ap (λ (z : ℕ). z + 1) long;
      head = head_stays h.more x header (omega arith) h.head;
      read = read_more v u line (keys_of header) x h.more extends h.read
          (subst (λ (z : ℕ). ¬ IsKeyWord (keys_of header) z → Among (record { place = line * 4 + z; value = x }) u.learned.known)
          (sym long) here);
    }

-- and the rest of them
pub put_rest : (v u : View) (line header many : ℕ) (words longer rest all : List ℕ) → 0 < many → Extends v u
    → ArePut v line header many words longer → all ≡ longer ++ rest
    → ((i : ℕ) → i < length rest
    → Among (record { place = line * 4 + (many + i); value = get_or rest i 0 }) u.learned.known)
    → ArePut u line header (many + length rest) words all
put_rest v u line header many words longer rest all some extends h is read =
    let long = h.long in
    record {
      more = h.more ++ rest;
      behind = is ∙ ap (λ (z : List ℕ). z ++ rest) h.behind ∙ append_assoc words h.more rest;
      long = length-append h.more rest ∙ ap (λ (z : ℕ). z + length rest) long;
      head = get_or_append_left h.more rest 0 0 (omega arith) ∙ h.head;
      read = read_behind v u line (keys_of header) many h.more rest extends long h.read read;
    }

-- a word that may be read may be read later
pub can_read_later : (v u : View) (f : Found) (i : ℕ) → Extends v u → CanReadWord v f i → CanReadWord u f i
can_read_later v u f i extends can = record {
  found = extends.learns.found f can.found;
  words = can.words;
  inside = can.inside;
  plain = ⊎_elim (λ (e : i ≡ 0). inl e)
      (λ (t : (h : ℕ) × Among (record { place = f.line * 4; value = h }) v.learned.known × ¬ IsKeyWord (keys_of h) i).
      inr (t.0, extends.learns.known _ t.1, t.2)) can.plain;
}
