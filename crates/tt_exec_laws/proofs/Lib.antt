mod PointsWithAll
mod PointsLoosened
mod PointsTotal
mod PointsShort
mod PointsMissing
mod WithAll
mod Loosened
mod Lacking
