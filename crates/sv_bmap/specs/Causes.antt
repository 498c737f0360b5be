-- Why a call that takes memory is refused.
pub use Rattle.sv_store.specs.Causes.{HasReason}
