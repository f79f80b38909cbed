pub mod PrintLaws
pub mod FormLaws
pub mod StepLaws
pub mod ScanningLaws
