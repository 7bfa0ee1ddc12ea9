-- Making a tracker in the lists of an image: what the host is told, and what stands in the lists then. Definitions only.
use Rattle.std.specs.Prelude.{ℕ, eqb, Result, Ok, Err}
use Rattle.lists.specs.Lists.{pick}
use Rattle.object.specs.Refusal.{number_of, told_of}
use Rattle.object.specs.declared.Refusal.{Refusal}
use Rattle.object.specs.declared.Refusal.TheVariants.{BadSetting}
use Rattle.frame.specs.declared.Settings.{Settings}
use Rattle.frame.specs.declared.Made.{Made}
use Rattle.frame.specs.Contract.{made_of}
use Rattle.image.specs.declared.TrackerImage.{TrackerImage}
use Rattle.image.specs.Image.{freeze_tracker, is_set, tagged}
use Rattle.making.specs.declared.SettingsImage.{SettingsImage}

abbrev pub thaw_settings : SettingsImage → Settings
thaw_settings s = record {
  det_thresh = s.det_thresh;
  iou_threshold = s.iou_threshold;
  inertia = s.inertia;
  max_age = s.max_age;
  min_hits = s.min_hits;
  delta_t = s.delta_t;
  use_byte = is_set s.use_byte;
}

-- a use_byte other than 0 and 1 is a bad setting
abbrev pub settings_of : SettingsImage → Result Settings Refusal
settings_of s = pick (tagged s.use_byte) (Ok (thaw_settings s)) (Err BadSetting)

-- a refusal's number or 0, and the image of the tracker that is made
pub record Fresh : Type 0 where
  pub number : ℕ
  pub image : TrackerImage

unfoldable pub fresh_of : Made → Fresh
fresh_of m = record { number = told_of m.outcome; image = freeze_tracker m.tracker }

-- a use_byte other than 0 and 1 is a bad setting
unfoldable pub fresh_with : SettingsImage → Fresh
fresh_with s = let f = fresh_of (made_of (thaw_settings s)) in record { number = pick (tagged s.use_byte) f.number (number_of BadSetting); image = f.image }

-- the image is written where nothing is refused
abbrev pub begun : TrackerImage → Fresh → TrackerImage
begun i f = pick (eqb f.number 0) f.image i
