-- The keys that a checker's definitions ask are those that the rows ask.
use Rattle.std.proofs.Common.{◌≡◌, ℕ, List, Ok, true, sym, ap, ◌∙◌, subst, arith}
use Rattle.std.specs.Prelude.{Result}
use Rattle.std.proofs.lemmas.Option.{slice_get_within}
use Rattle.fish_catalog.proofs.Texts.{read_once}
use Rattle.fish_catalog.specs.declared.row.CatRow.{CatRow}
use Rattle.fish_lang.specs.Definition.{Definition, definition_of}
use Rattle.fish_lang.specs.declared.parse.LangRefusal.{LangRefusal}
use Rattle.fish_layout.specs.declared.parts.BodyParts.{BodyParts}
use Rattle.fish_psf.specs.Records.{evaluation, is_record}
use Rattle.fish_image.specs.Log.{AreSomeOf, HasRowKeys, values_under}
use Rattle.fish_image.specs.within.Regions.{HasKeysIn}
use Rattle.fish_image.specs.Terms.{AreIndexRows}
use Rattle.fish_image.specs.declared.terms.IndexRow.{IndexRow}
use Rattle.fish_image.proofs.Spelling.{parted}

-- two definitions are the same where they are one answer
said_same : {a b : Definition} → ◌≡◌ {A = Result Definition LangRefusal} (Ok a) (Ok b) → a ≡ b
said_same e = cc

module _ {rows : List CatRow} {xs : List IndexRow} (h : AreIndexRows rows xs) (number : ℕ) (p : BodyParts) where
  -- what the definitions ask, the rows ask
  pub keys_out : HasKeysIn xs number p → HasRowKeys rows number p
  keys_out has = record {
    known = λ j k there. let size = h.size in let few = has.keys.known j k there in omega arith;
    values = λ id row there.
        let within = slice_get_within rows id row there in
        let size = h.size in
        let t = parted xs id (omega arith) in
        let same = h.each id row t.0 there t.1 in
        let v = has.keys.values id t.0 t.1 in
        record {
          said = definition_of t.0.def;
          read = same.read;
          some = v.some;
          all = λ covers. v.all (record {
            from = covers.from;
            begins = same.from ∙ covers.begins;
            behind = covers.behind;
            ahead = λ to ends. covers.ahead to (sym same.to ∙ ends);
          });
        };
  }

  -- and the other way round
  pub keys_in : is_record p.form p.payload ≡ true → HasRowKeys rows number p → HasKeysIn xs number p
  keys_in reads has = record {
    reads = reads;
    keys = record {
      known = λ j k there. let size = h.size in let few = has.known j k there in omega arith;
      values = λ id x there.
          let within = slice_get_within xs id x there in
          let size = h.size in
          let t = parted rows id (omega arith) in
          let same = h.each id t.0 x t.1 there in
          let v = has.values id t.0 t.1 in
          let said = said_same (read_once t.0.def (Ok v.said) (Ok (definition_of x.def)) v.read same.read) in
          record {
            some = subst (λ (d : Definition). AreSomeOf (values_under id p.keys) (evaluation d p.form p.payload)) said v.some;
            all = λ covers. v.all (record {
              from = covers.from;
              begins = sym same.from ∙ covers.begins;
              behind = covers.behind;
              ahead = λ to ends. covers.ahead to (same.to ∙ ends);
            }) ∙ ap (λ (d : Definition). evaluation d p.form p.payload) said;
          };
    };
  }
