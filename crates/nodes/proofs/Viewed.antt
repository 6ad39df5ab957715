-- What an item is, by its kind.
use Rattle.std.proofs.Common.{◌≡◌, ℕ, Bool, true, false, cond, eqb, Some, None, refl, ap, ◌∙◌}
use Rattle.std.proofs.lemmas.Bool.{eqb-true, cond-true, cond-false}
use Rattle.kinds.specs.declared.Kind.{Kind}
use Rattle.kinds.specs.declared.Kind.TheVariants.{Marker, Padding, Entry, Content}
use Rattle.kinds.specs.Kinds.{kind_value, kind_with}
use Rattle.nodes.specs.Fields.{padded}
use Rattle.nodes.specs.Items.{Item, kind, totlen, is_word, size}
use Rattle.nodes.specs.Records.{read_entry, read_content}
use Rattle.nodes.specs.Views.{View, zero_word, marker_of, padding_of, unknown_of, entry_of, content_of, view}

pub kind_known : (v : ℕ) (k : Kind) → kind_with v ≡ Some k → v ≡ kind_value k
kind_known v k e = go (eqb v 0x2003) (eqb v 0x2004) (eqb v 0xE001) (eqb v 0xE002) (eqb-true _ _) (eqb-true _ _) (eqb-true _ _) (eqb-true _ _) e
  where
    go : (a b c d : Bool) → (a ≡ true → v ≡ 0x2003) → (b ≡ true → v ≡ 0x2004) → (c ≡ true → v ≡ 0xE001) → (d ≡ true → v ≡ 0xE002) → cond a (Some Marker) (cond b (Some Padding) (cond c (Some Entry) (cond d (Some Content) None))) ≡ Some k → v ≡ kind_value k
    go true b c d p q r s e = let h = p refl in cc
    go false true c d p q r s e = let h = q refl in cc
    go false false true d p q r s e = let h = r refl in cc
    go false false false true p q r s e = let h = s refl in cc
    go false false false false p q r s e = cc

pub kind_unknown : (v : ℕ) → kind_with v ≡ None → (eqb v 0x2003 ≡ false) × (eqb v 0x2004 ≡ false) × (eqb v 0xE001 ≡ false) × (eqb v 0xE002 ≡ false)
kind_unknown v e = go (eqb v 0x2003) (eqb v 0x2004) (eqb v 0xE001) (eqb v 0xE002) e
  where
    go : (a b c d : Bool) → cond a (Some Marker) (cond b (Some Padding) (cond c (Some Entry) (cond d (Some Content) None))) ≡ None → (a ≡ false) × (b ≡ false) × (c ≡ false) × (d ≡ false)
    go false false false false e = (refl, refl, refl, refl)
    go true b c d e = cc
    go false true c d e = cc
    go false false true d e = cc
    go false false false true e = cc

-- what is no zero word, of a kind with this value
abbrev of_kind : ℕ → Item → View
of_kind v it =
    cond (eqb v 0x2003) (marker_of (totlen it))
    (cond (eqb v 0x2004) (padding_of (totlen it))
    (cond (eqb v 0xE001) (entry_of it (read_entry it))
    (cond (eqb v 0xE002) (content_of it (read_content it))
    (unknown_of v (totlen it)))))

pub view_word : (it : Item) → is_word it ≡ true → view it ≡ zero_word
unfolding view
view_word it w = cond-true _ _ _ w

pub view_kind : (it : Item) (v : ℕ) → is_word it ≡ false → kind it ≡ v → view it ≡ of_kind v it
unfolding view
view_kind it v w e = cond-false _ _ _ w ∙ ap (λ k. of_kind k it) e

pub view_unknown : (it : Item) (v : ℕ) → is_word it ≡ false → kind it ≡ v → kind_with v ≡ None → view it ≡ unknown_of v (totlen it)
view_unknown it v w e u =
    let f = kind_unknown v u in
    view_kind it v w e ∙ cond-false _ _ _ f.0 ∙ cond-false _ _ _ f.1 ∙ cond-false _ _ _ f.2 ∙ cond-false _ _ _ f.3

pub size_word : (it : Item) → is_word it ≡ true → size it ≡ 4
unfolding size
size_word it w = cond-true _ _ _ w

pub size_other : (it : Item) → is_word it ≡ false → size it ≡ padded (totlen it)
unfolding size
size_other it w = cond-false _ _ _ w
