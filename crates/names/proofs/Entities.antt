-- `==` on entities answers whether they are equal.
use Rattle.std.proofs.Common.{◌≡◌, true, eqb, refl}
use Rattle.std.proofs.lemmas.Bool.{and_parts, and_from, eqb-true, eq-eqb}
use Rattle.names.specs.declared.entity.EntityUID.{EntityUID}
use Rattle.names.specs.Entities.{entity_equal}

pub entity_only : (a b : EntityUID) → entity_equal a b ≡ true → a ≡ b
entity_only a b h =
    let p = and_parts (eqb a.ty b.ty) (eqb a.eid b.eid) h in
    let t = eqb-true a.ty b.ty p.0 in
    let e = eqb-true a.eid b.eid p.1 in
    λ i. record { ty = t i; eid = e i }

pub entity_itself : (a : EntityUID) → entity_equal a a ≡ true
entity_itself a = and_from (eqb a.ty a.ty) (eqb a.eid a.eid) (eq-eqb a.ty a.ty refl) (eq-eqb a.eid a.eid refl)
