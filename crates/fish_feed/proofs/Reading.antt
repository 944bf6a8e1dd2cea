-- What a step of reading a file leaves.
use Rattle.std.proofs.Common.{◌≡◌, ◌≤◌, ◌<◌, ◌+◌, ℕ, zero, suc, length-append, List, [], ◌∷◌, ◌++◌, append-nil, append_assoc}
use Rattle.std.proofs.Common.{length, take, refl, true, false}
use Rattle.std.proofs.Common.{sym, ap, ◌∙◌, subst, Option, Some, None, arith}
use Rattle.std.proofs.lemmas.List.{take_all}
use Rattle.std.proofs.lemmas.Option.{same_Some}
use Rattle.std.specs.Prelude.{IfSome}
use Rattle.fish_feed.specs.Parts.{longest_csv_read}
use Rattle.fish_feed.specs.OpenFiles.{CanRead, GivesPart, IsFilePart, IsRestOf, IsStuck}
use Rattle.fish_feed.specs.within.OpenFiles.{HasReadMore, IsCutOff, ReadsOnFile}
use Rattle.fish_feed.specs.declared.part.OpenFile.{OpenFile}
use Rattle.fish_feed.specs.declared.part.Part.{Part}
use Rattle.fish_lanes.specs.declared.work.Work.{Work}
use Rattle.fish_lanes.specs.declared.work.Work.TheVariants as work
use Rattle.fish_outside.proofs.ContentLemmas.{Took_trans}
use Rattle.fish_outside.specs.Causes.{Rose}
use Rattle.fish_outside.specs.Content.{IsAtEnd, Took}
use Rattle.fish_value.specs.declared.field.Form.{Form}

-- as many as there are of the front
take_front : {A : Type 0} (n : ℕ) (xs ys : List A) → length xs ≡ n → take n (xs ++ ys) ≡ xs
take_front zero [] ys is = refl
take_front (suc n) [] ys is = absurd cc
take_front zero (x ∷ xs) ys is = absurd cc
take_front {A = A} (suc n) (x ∷ xs) ys is = ap (λ (zs : List A). x ∷ zs) (take_front n xs ys (omega (is, arith)))

-- what was cut off is no longer than the whole
pub cut_short : (n : ℕ) (part rest : List ℕ) → n ≡ length (part ++ rest) → n ≤ longest_csv_read → length part ≤ longest_csv_read
cut_short n part rest is short = (let all = length-append part rest in omega (all, is, short, arith))

-- and one of which lines were cut off
pub can_cut : {F : Type 0} (faults : F → ℕ) (o u : OpenFile F) (w : Work) → CanRead faults o → IsCutOff o u w → CanRead faults u
can_cut faults o u w can c = record {
  short =
      let all : length o.rest ≡ length c.part + length u.rest = ap length c.cut ∙ length-append c.part u.rest in
      let most = can.short in
      omega (all, most, arith);
  failed = λ is. subst (λ (z : _). Rose 0 (faults z)) (sym c.feed_is) (can.failed (sym c.failed_is ∙ is));
}

-- a file of which all was given may be read
pub can_none : {F : Type 0} (faults : F → ℕ) (o u : OpenFile F) → CanRead faults o → u.rest ≡ [] → u.feed ≡ o.feed → u.failed ≡ o.failed
    → CanRead faults u
can_none faults o u can none feed failed = record {
  short = subst (λ (z : List ℕ). length z ≤ longest_csv_read) (sym none) (omega arith);
  failed = λ is. subst (λ (z : _). Rose 0 (faults z)) (sym feed) (can.failed (sym failed ∙ is));
}

-- to take nothing is to stay the same, or to fall silent
pub took_none : (x : Option (List ℕ)) → Took x x []
took_none None = tt
took_none (Some l) = refl

module _ {F : Type 0} (left : F → Option (List ℕ)) where
  -- nothing came of a file that stays as it is
  pub on_none : (o : OpenFile F) → ReadsOnFile left o o
  on_none o = record {
    more = [];
    gone = [];
    took = took_none (left o.feed);
    rest_is = sym (append-nil o.rest);
    whole = λ whole. (whole, refl);
    none = λ _. refl;
    form_is = refl;
    begin_is = refl;
    name_is = refl;
    room_is = refl;
  }

  -- what was read was read on, and nothing lost
  pub on_read : (o u : OpenFile F) → HasReadMore left o u → ReadsOnFile left o u
  on_read o u h = record {
    more = h.more;
    gone = [];
    took = subst (λ (z : List ℕ). Took (left o.feed) (left u.feed) z) (sym (append-nil h.more)) h.took;
    rest_is = h.rest_is;
    whole = λ _. (h.whole.0, refl);
    none = λ lost. absurd (let bad : true ≡ false = sym lost ∙ h.whole.0 in cc);
    form_is = h.form_is;
    begin_is = h.begin_is;
    name_is = h.name_is;
    room_is = h.room_is;
  }

  -- what was read on after something was read was so since then
  pub on_after : (o m u : OpenFile F) → HasReadMore left o m → ReadsOnFile left m u → ReadsOnFile left o u
  on_after o m u h k = record {
    more = h.more ++ k.more;
    gone = k.gone;
    took = subst (λ (z : List ℕ). Took (left o.feed) (left u.feed) z) (sym (append_assoc h.more k.more k.gone))
        (Took_trans (left o.feed) (left m.feed) (left u.feed) h.more (k.more ++ k.gone) h.took k.took);
    rest_is = k.rest_is ∙ ap (λ (z : List ℕ). z ++ k.more) h.rest_is ∙ append_assoc o.rest h.more k.more;
    whole = λ whole. (h.whole.0, (k.whole whole).1);
    none = λ lost. absurd (let bad : true ≡ false = sym lost ∙ h.whole.0 in cc);
    form_is = k.form_is ∙ h.form_is;
    begin_is = k.begin_is ∙ h.begin_is;
    name_is = k.name_is ∙ h.name_is;
    room_is = k.room_is ∙ h.room_is;
  }

  pub read_both : (o m u : OpenFile F) → HasReadMore left o m → HasReadMore left m u → HasReadMore left o u
  read_both o m u h k = record {
    more = h.more ++ k.more;
    took = Took_trans (left o.feed) (left m.feed) (left u.feed) h.more k.more h.took k.took;
    rest_is = k.rest_is ∙ ap (λ (z : List ℕ). z ++ k.more) h.rest_is ∙ append_assoc o.rest h.more k.more;
    form_is = k.form_is ∙ h.form_is;
    begin_is = k.begin_is ∙ h.begin_is;
    name_is = k.name_is ∙ h.name_is;
    room_is = k.room_is ∙ h.room_is;
    whole = (h.whole.0, k.whole.1);
  }

  -- lines were cut off once bytes had come
  pub part_of : (o m u : OpenFile F) (w : Work) → HasReadMore left o m → IsCutOff m u w → IsFilePart left o w u
  part_of o m u w h c = record {
    part = c.part;
    more = h.more;
    json = sym h.form_is ∙ c.json;
    line = c.line;
    took = subst (λ (z : F). Took (left o.feed) (left z) h.more) (sym c.feed_is) h.took;
    cut = sym h.rest_is ∙ c.cut;
    is = c.is ∙ (λ i. work.Ingest (h.form_is i) (h.begin_is i) (h.name_is i) c.part);
    form_is = c.form_is ∙ h.form_is;
    begin_is = c.begin_is;
    name_is = c.name_is ∙ h.name_is;
    room_is = c.room_is ∙ h.room_is;
    whole = (h.whole.0, c.lost_is ∙ h.whole.1);
  }

  -- a part was given once bytes had come
  part_later : (o m u : OpenFile F) (w : Work) → HasReadMore left o m → IsFilePart left m w u → IsFilePart left o w u
  part_later o m u w h p = record {
    part = p.part;
    more = h.more ++ p.more;
    json = sym h.form_is ∙ p.json;
    line = p.line;
    took = Took_trans (left o.feed) (left m.feed) (left u.feed) h.more p.more h.took p.took;
    cut = sym (append_assoc o.rest h.more p.more) ∙ ap (λ (z : List ℕ). z ++ p.more) (sym h.rest_is) ∙ p.cut;
    is = p.is ∙ (λ i. work.Ingest (h.form_is i) (h.begin_is i) (h.name_is i) p.part);
    form_is = p.form_is ∙ h.form_is;
    begin_is = p.begin_is;
    name_is = p.name_is ∙ h.name_is;
    room_is = p.room_is ∙ h.room_is;
    whole = (h.whole.0, p.whole.1);
  }

  -- or all that was left
  rest_later : (o m u : OpenFile F) (w : Work) → HasReadMore left o m → IsRestOf left m w u → IsRestOf left o w u
  rest_later o m u w h r = record {
    bytes = r.bytes;
    few = r.few;
    is = r.is ∙ (λ i. work.Ingest (h.form_is i) (h.begin_is i) (h.name_is i) r.bytes);
    stuck = λ long. subst (λ (z : Form × ℕ). IsStuck z.0 z.1 r.bytes) (λ i. (h.form_is i, h.room_is i)) (r.stuck long);
    whole = h.whole.0;
    all = by (left u.feed) (left m.feed) h.took r.all;
  }
    where
      by : (y x : Option (List ℕ)) → Took (left o.feed) x h.more
          → IfSome y (λ _. (l : List ℕ) × (x ≡ Some l) × (r.bytes ≡ take longest_csv_read (m.rest ++ l)))
          → IfSome y (λ _. (l : List ℕ) × (left o.feed ≡ Some l) × (r.bytes ≡ take longest_csv_read (o.rest ++ l)))
      by None x took all = tt
      by (Some y) None took all = absurd (let bad : None ≡ Some all.0 = all.1 in cc)
      by (Some y) (Some z) took all = (
        h.more ++ z,
        took,
        all.2 ∙ ap (λ (k : List ℕ). take longest_csv_read (m.rest ++ k)) (sym (same_Some z all.0 all.1))
            ∙ ap (λ (k : List ℕ). take longest_csv_read (k ++ z)) h.rest_is
            ∙ ap (take longest_csv_read) (append_assoc o.rest h.more z),
      )

  pub gives_later : (o m u : OpenFile F) (p : Part) → HasReadMore left o m → GivesPart left m p u → GivesPart left o p u
  gives_later o m u p h g = record {
    few = g.few;
    one = λ is. part_later o m u p.work h (g.one is);
    rest = λ is. rest_later o m u p.work h (g.rest is);
  }

  module _ (o m u : OpenFile F) (w : Work) (h : HasReadMore left o m) (few : length m.rest ≤ longest_csv_read)
      (is : w ≡ work.Ingest m.form m.begin m.name m.rest) (feed : u.feed ≡ m.feed) where
    is_here : w ≡ work.Ingest o.form o.begin o.name m.rest
    is_here = is ∙ (λ i. work.Ingest (h.form_is i) (h.begin_is i) (h.name_is i) m.rest)

    abbrev All : Option (List ℕ) → Type 0
    All x = IfSome x (λ z. (l : List ℕ) × (left o.feed ≡ Some l) × (m.rest ≡ take longest_csv_read (o.rest ++ l)))

    -- all that came is the rest, where no more comes
    pub rest_at_end : IsAtEnd (left m.feed) → length m.rest < longest_csv_read → IsRestOf left o w u
    rest_at_end end less = record {
      bytes = m.rest;
      few = few;
      is = is_here;
      stuck = λ many. absurd (omega (less, many, arith));
      whole = h.whole.0;
      all = subst (λ (z : F). All (left z)) (sym feed) (by (left m.feed) h.took end);
    }
      where
        by : (x : Option (List ℕ)) → Took (left o.feed) x h.more → IsAtEnd x → All x
        by None took end = tt
        by (Some z) took end = (
          h.more ++ z,
          took,
          sym (ap (λ (y : List ℕ). take longest_csv_read (o.rest ++ (h.more ++ y))) end
              ∙ ap (λ (y : List ℕ). take longest_csv_read (o.rest ++ y)) (append-nil h.more)
              ∙ ap (take longest_csv_read) (sym h.rest_is) ∙ take_all longest_csv_read m.rest few),
        )

    -- or where no more may be given at once
    pub rest_full : longest_csv_read ≤ length m.rest → IsStuck m.form m.room m.rest → IsRestOf left o w u
    rest_full many stuck = record {
      bytes = m.rest;
      few = few;
      is = is_here;
      stuck = λ _. subst (λ (z : Form × ℕ). IsStuck z.0 z.1 m.rest) (λ i. (h.form_is i, h.room_is i)) stuck;
      whole = h.whole.0;
      all = subst (λ (z : F). All (left z)) (sym feed) (by (left m.feed) h.took);
    }
      where
        by : (x : Option (List ℕ)) → Took (left o.feed) x h.more → All x
        by None took = tt
        by (Some z) took = (
          h.more ++ z,
          took,
          sym (ap (take longest_csv_read) (sym (append_assoc o.rest h.more z) ∙ ap (λ (y : List ℕ). y ++ z) (sym h.rest_is))
              ∙ take_front longest_csv_read m.rest z (omega (few, many, arith))),
        )
