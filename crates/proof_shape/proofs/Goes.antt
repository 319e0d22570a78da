-- What a move means for the entries.
use Rattle.std.proofs.Common.{◌≡◌, length, Option, sym, ap, ◌∙◌, subst}
use Rattle.forest_place.specs.declared.place.Place.{Place}
use Rattle.forest_model.specs.Content.{content}
use Rattle.forest_model.specs.Deletion.{entries_without, GoesTo, moved}
use Rattle.forest_model.proofs.Moving.{part_goes, entry_goes}
use Rattle.proof_shape.specs.Targeted.{Targeted}
use Rattle.proof_shape.specs.Laws.{WhatStaysGoes, EntryGoes}

pub stays_goes : (t : Targeted) (p : Place) (q : Option Place) → q ≡ moved t.leaves t.targets p.row p.off → WhatStaysGoes t p q
stays_goes t p q is es numbers row part tree n at s e =
    let same : moved (length es) t.targets p.row p.off ≡ q = ap (λ k. moved k t.targets p.row p.off) n ∙ sym is in
    subst (GoesTo (entries_without numbers es) (content (entries_without numbers es) row part)) same
    (part_goes es t.targets numbers at p.row p.off row part tree s e)

pub entry_stays : (t : Targeted) (p : Place) (q : Option Place) → q ≡ moved t.leaves t.targets p.row p.off → EntryGoes t p q
entry_stays t p q is es numbers i d n at live found =
    entry_goes es t.targets numbers at i d p live found ∙ (ap (λ k. moved k t.targets p.row p.off) n ∙ sym is)
