use Rattle.std.proofs.Common.{◌≡◌, ◌∙◌, Some, IsSome, refl, sym, ap, subst}
use Rattle.sv_form.specs.Geometry.{inode_place}
use Rattle.sv_form.specs.declared.place.Place.{Place}
use Rattle.sv_store.specs.Held.{Lent, without}
use Rattle.sv_store.proofs.Holding.{CanReturn-got, without-with}
use Rattle.sv_files.proofs.LineRead.{line-spells}
use Rattle.sv_files.proofs.body.read_body.Goals as goal

pub brelse-requires : goal.brelse-requires
brelse-requires g c = CanReturn-got c.in_ok-buf.ensures.ok _ _ c.in_ok-buf.ensures.lends

pub unwrap-requires : goal.unwrap-requires
unwrap-requires g c =
    subst (λ o. IsSome o) (sym (c.read_line-body.ensures c.requires.line.body (line-spells _ _ _ _ c.in_ok-buf.buf c.bytes.result.now
    c.requires.line.line c.requires.line.body c.in_ok-buf.ensures.ok c.bytes.ensures
    (subst (λ (p : Place). g.S.Stake.held c.args.s.now p.block p.line ≡ Some c.requires.line.line) (sym place) c.requires.line.there)
    c.requires.line.spelled))) refl
  where
    place : c.inode_place-place.result ≡ inode_place (g.S.Stake.origin c.args.s.now).sizes c.args.number
    place = c.inode_place-place.ensures ∙ ap (λ q. inode_place q c.args.number) c.geometry.ensures.value

pub returns-clause-body : goal.returns-clause-body
returns-clause-body g c = λ line body there is.
    let read = c.read_line-body.ensures body (line-spells _ _ _ _ c.in_ok-buf.buf c.bytes.result.now line body c.in_ok-buf.ensures.ok
    c.bytes.ensures (subst (λ (p : Place). g.S.Stake.held c.args.s.now p.block p.line ≡ Some line) (sym place) there) is) in
    cc (c.unwrap.ensures, read)
  where
    place : c.inode_place-place.result ≡ inode_place (g.S.Stake.origin c.args.s.now).sizes c.args.number
    place = c.inode_place-place.ensures ∙ ap (λ q. inode_place q c.args.number) c.geometry.ensures.value

pub returns-clause-stake : goal.returns-clause-stake
returns-clause-stake g c = record {
  lines = c.brelse.ensures.held ∙ c.bread.ensures.held;
  away =
      c.brelse.ensures.lends
      ∙ (ap (λ q. without q (g.S.Stake.lent c.bread.new.self)) c.in_ok-buf.ensures.ok.block
      ∙ (ap (without c.inode_place-place.result.block) c.in_ok-buf.ensures.lends
      ∙ (without-with c.inode_place-place.result.block c.in_ok-buf.buf.bytes (g.S.Stake.lent c.args.s.now)
      (ap (λ (q : Lent). q c.inode_place-place.result.block) c.requires.lent) ∙ c.requires.lent)));
  as_forced = c.brelse.ensures.forced ∙ c.bread.ensures.forced;
  home = c.brelse.ensures.origin ∙ c.bread.ensures.origin;
}
