-- How a snapshot is kept: three sets over the same zones. In the plain format the set of the zero pages is empty.
use Rattle.std.specs.Prelude.{◌≡◌, []}
use Rattle.page_core.specs.declared.format.Format.TheVariants.{Plain}
use Rattle.snapshot.specs.Taken.{Taken}
use Rattle.snapshot.specs.declared.Snapshot.TheInside.{Inside}

abbrev pub taken : Inside → Taken
taken s = record {
  zones = s.origs.zones;
  format = s.format;
  origs = s.origs.members;
  copies = s.copies.members;
  zeros = s.zeros.members;
}

pub record IsKept (s : Inside) : Type 0 where
  pub of_copies : s.copies.zones ≡ s.origs.zones
  pub of_zeros : s.zeros.zones ≡ s.origs.zones
  pub plain : s.format ≡ Plain → s.zeros.members ≡ []
