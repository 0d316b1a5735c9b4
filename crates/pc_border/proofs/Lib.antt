mod OpeningLaws
mod Results
